-- The ways in which two facts clash, by what each of them says of its names.
use Rattle.std.proofs.Common.{◌≡◌, ℕ, ◌⊎◌, ◌↔◌, List, sym, refl, ◌∙◌, subst, ap₂, subst₂, inl, inr, ⊎_elim, arith}
use Rattle.clash.specs.Contrary.{Contrary, Denied, Says, back, there}
use Rattle.clash.specs.declared.pairs.Hop.{Hop}
use Rattle.theory.specs.Clashes.{Clash, at_one, across_one, two_partners, linked}
use Rattle.vocabulary.specs.declared.basic.Basic.TheVariants.{Named, Start}
use Rattle.vocabulary.specs.declared.basic.Directed.{Directed}
use Rattle.vocabulary.specs.declared.basic.Directed.TheVariants.{Forward, Backward}
use Rattle.vocabulary.specs.declared.facts.Fact.{Fact}
use Rattle.vocabulary.specs.declared.facts.Fact.TheVariants.{InClass, Linked}
use Rattle.vocabulary.specs.declared.numbers.Class.{Class}
use Rattle.vocabulary.specs.declared.numbers.Link.{Link}
use Rattle.vocabulary.specs.declared.numbers.Name.{Name}
use Rattle.vocabulary.specs.declared.rules.Family.{Family}
use Rattle.vocabulary.specs.declared.rules.Rule.{Rule}

-- a directed link from one name to another
abbrev hop : Directed → Name → Name → Hop
hop d a b = record { along = d; from = a; to = b }

-- a fact on a class says no link, and a fact on a link says it in both directions
no_link : (d : Directed) {c : Class} {a : Name} (x y : Name) → InClass c a ≡ linked d x y → ⊥
no_link (Forward l) x y e = let z : ◌≡◌ {A = ℕ} 0 1 = cc in omega arith
no_link (Backward l) x y e = let z : ◌≡◌ {A = ℕ} 0 1 = cc in omega arith

either_way : {l : Link} {a b : Name} (p : Hop) → Says (Linked l a b) p → (p ≡ there l a b) ⊎ (p ≡ back l a b)
either_way {l} {a} {b} p = go p.along p.from p.to
  where
    go : (d : Directed) (x y : Name) → Linked l a b ≡ linked d x y → (hop d x y ≡ there l a b) ⊎ (hop d x y ≡ back l a b)
    go (Forward m) x y e = inl (cc)
    go (Backward m) x y e = inr (cc)

module _ (family : Family) (rules : List Rule) where
  pub class_clashes : (c : Class) (a : Name) (g : Fact) → Contrary family rules (Named c) a g ↔ Clash family rules (InClass c a) g
  class_clashes c a g = ((λ h. at_one a (Named c) h.0 refl h.1 h.2), from)
    where
      from : Clash family rules (InClass c a) g → Contrary family rules (Named c) a g
      from (at_one x (Named d) b p q e) =
          let same : d ≡ c = cc in
          let name : x ≡ a = cc in
          subst₂ (λ (k : Class) (n : Name). Contrary family rules (Named k) n g) same name (b, q, e)
      from (at_one x (Start d) b (y, p) q e) = absurd (no_link d x y p)
      from (across_one x y d e p q h) = absurd (no_link d x y p)
      from (two_partners x y z d m p q n) = absurd (no_link d x y p)

  denied_clashes : {f g : Fact} (p : Hop) → Says f p → Denied family rules p g → Clash family rules f g
  denied_clashes p s (inl (c, q, e)) = at_one p.from (Start p.along) c (p.to, s) q e
  denied_clashes p s (inr (q, t, (o, inl (u, e)))) = across_one p.from p.to p.along q.along s (t ∙ sym (ap₂ (linked q.along) o u)) e
  denied_clashes p s (inr (q, t, (o, inr (n, d, m)))) =
      two_partners p.from p.to q.to p.along m s (t ∙ sym (ap₂ (λ (k : Directed) (x : Name). linked k x q.to) d o)) n

  clash_denies : (l : Link) (a b : Name) {g : Fact} → Clash family rules (Linked l a b) g → (p : Hop) × Says (Linked l a b) p × Denied family rules p g
  clash_denies l a b (at_one x (Named c) k p q e) = absurd (let z : ◌≡◌ {A = ℕ} 0 1 = cc in omega arith)
  clash_denies l a b (at_one x (Start d) k (y, p) q e) = (hop d x y, p, inl (k, q, e))
  clash_denies l a b (across_one x y d e p q h) = (hop d x y, p, inr (hop e x y, q, (refl, inl (refl, h))))
  clash_denies l a b (two_partners x y z d m p q n) =
      (hop d x y, p, inr (hop d x z, q, (refl, inr (n, refl, m))))

  pub link_clashes : (l : Link) (a b : Name) (g : Fact) → (Denied family rules (there l a b) g ⊎ Denied family rules (back l a b) g) ↔ Clash family rules (Linked l a b) g
  link_clashes l a b g = (⊎_elim (denied_clashes (there l a b) refl) (denied_clashes (back l a b) refl), from)
    where
      from : Clash family rules (Linked l a b) g → Denied family rules (there l a b) g ⊎ Denied family rules (back l a b) g
      from k =
          let (p, s, h) = clash_denies l a b k in
          elim (either_way p s) [
            | inl e ↦ inl (subst (λ (q : Hop). Denied family rules q g) e h)
            | inr e ↦ inr (subst (λ (q : Hop). Denied family rules q g) e h)
          ]
