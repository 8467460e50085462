-- Whether two facts clash can be found out: a fact says only so much of its names.
use Rattle.theory.proofs.Closed.{excluded}
use Rattle.theory.proofs.Decisions.{both, either, never, some}
use Rattle.theory.proofs.Lists.{Some, one_of_two}
use Rattle.theory.proofs.Reached.{same_directed, same_name, single}
use Rattle.theory.specs.Clashes.{linked, At, Clash, at_one, across_one, two_partners}
use Rattle.theory.specs.Closure.{Excluded, classes, links}
use Rattle.vocabulary.specs.declared.basic.Basic.{Basic}
use Rattle.vocabulary.specs.declared.basic.Basic.TheVariants.{Named, Start}
use Rattle.vocabulary.specs.declared.basic.Directed.{Directed}
use Rattle.vocabulary.specs.declared.basic.Directed.TheVariants.{Forward, Backward}
use Rattle.vocabulary.specs.declared.facts.Fact.{Fact}
use Rattle.vocabulary.specs.declared.facts.Fact.TheVariants.{InClass, Linked}
use Rattle.vocabulary.specs.declared.numbers.Name.{Name}
use Rattle.vocabulary.specs.declared.rules.Family.{Family}
use Rattle.vocabulary.specs.declared.rules.Rule.{Rule}
use Rattle.vocabulary.specs.declared.rules.Rule.TheVariants.{Single}
use Rattle.std.proofs.Common.{◌≡◌, ◌⊎◌, List, [], ◌∷◌, sym, refl, subst, inl, inr, ⊎_elim}
use mathlib.Core.List.Memᴰ
use mathlib.Core.List.{Memᴰ}
use native.Mathlib.Decide.{map_dec}

-- a name in a basic class, and a directed link from one name to another
record Member : Type 0 where
  class : Basic
  name : Name

record Pairing : Type 0 where
  along : Directed
  from : Name
  to : Name

-- what a fact says of its names
abbrev members : Fact → List Member
members (InClass c a) = record { class = Named c; name = a } ∷ []
members (Linked l a b) = record { class = Start (Forward l); name = a } ∷ (record { class = Start (Backward l); name = b } ∷ [])

abbrev pairings : Fact → List Pairing
pairings (InClass c a) = []
pairings (Linked l a b) = record { along = Forward l; from = a; to = b } ∷ (record { along = Backward l; from = b; to = a } ∷ [])

-- a fact's members and pairings are what it says
member_in : (f : Fact) (b : Basic) (a : Name) → At f b a → Memᴰ (record { class = b; name = a }) (members f)
member_in f (Named c) a p = subst (λ (g : Fact). Memᴰ (record { class = Named c; name = a }) (members g)) (sym p) (Memᴰ.head refl)
member_in f (Start (Forward l)) a (b, p) = subst (λ (g : Fact). Memᴰ (record { class = Start (Forward l); name = a }) (members g)) (sym p) (Memᴰ.head refl)
member_in f (Start (Backward l)) a (b, p) = subst (λ (g : Fact). Memᴰ (record { class = Start (Backward l); name = a }) (members g)) (sym p) (Memᴰ.tail (Memᴰ.head refl))

member_out : (f : Fact) (m : Member) → Memᴰ m (members f) → At f m.class m.name
member_out (InClass c a) m k = subst (λ (n : Member). At (InClass c a) n.class n.name) (sym (Memᴰ.eq_of_singleton k)) refl
member_out (Linked l a b) m k =
    ⊎_elim (λ e. subst (λ (n : Member). At (Linked l a b) n.class n.name) (sym e) (b, refl))
    (λ e. subst (λ (n : Member). At (Linked l a b) n.class n.name) (sym e) (a, refl)) (one_of_two k)

pairing_in : (f : Fact) (d : Directed) (a b : Name) → f ≡ linked d a b → Memᴰ (record { along = d; from = a; to = b }) (pairings f)
pairing_in f (Forward l) a b p = subst (λ (g : Fact). Memᴰ (record { along = Forward l; from = a; to = b }) (pairings g)) (sym p) (Memᴰ.head refl)
pairing_in f (Backward l) a b p = subst (λ (g : Fact). Memᴰ (record { along = Backward l; from = a; to = b }) (pairings g)) (sym p) (Memᴰ.tail (Memᴰ.head refl))

pairing_out : (f : Fact) (w : Pairing) → Memᴰ w (pairings f) → f ≡ linked w.along w.from w.to
pairing_out (InClass c a) w k = absurd (Memᴰ.not-nil k)
pairing_out (Linked l a b) w k =
    ⊎_elim (λ e. subst (λ (v : Pairing). Linked l a b ≡ linked v.along v.from v.to) (sym e) refl)
    (λ e. subst (λ (v : Pairing). Linked l a b ≡ linked v.along v.from v.to) (sym e) refl) (one_of_two k)

module _ (family : Family) (rules : List Rule) where
  -- the three ways to clash, by what two facts say
  abbrev AtOdds : Member → Member → Type 0
  AtOdds m n = (m.name ≡ n.name) × Excluded family rules (classes m.class n.class)

  abbrev Crossed : Pairing → Pairing → Type 0
  Crossed p q = (p.from ≡ q.from) × ((p.to ≡ q.to) × Excluded family rules (links p.along q.along))

  abbrev Parted : Pairing → Pairing → Type 0
  Parted p q = (p.from ≡ q.from) × ((p.along ≡ q.along) × (Memᴰ (Single p.along) rules × ¬ (p.to ≡ q.to)))

  abbrev Said : Fact → Fact → Type 0
  Said f g =
      Some (λ m. Some (AtOdds m) (members g)) (members f)
      ⊎ (Some (λ p. Some (Crossed p) (pairings g)) (pairings f) ⊎ Some (λ p. Some (Parted p) (pairings g)) (pairings f))

  clash_said : {f g : Fact} → Clash family rules f g → Said f g
  clash_said {f} {g} (at_one a b c p q e) = inl (record { class = b; name = a }, member_in f b a p, (record { class = c; name = a }, member_in g c a q, (refl, e)))
  clash_said {f} {g} (across_one a b d e p q x) =
      inr (inl (record { along = d; from = a; to = b }, pairing_in f d a b p, (record { along = e; from = a; to = b }, pairing_in g e a b q, (refl, (refl, x)))))
  clash_said {f} {g} (two_partners a b c d m p q n) =
      inr (inr (record { along = d; from = a; to = b }, pairing_in f d a b p, (record { along = d; from = a; to = c }, pairing_in g d a c q, (refl, (refl, (m, n))))))

  said_clash : (f g : Fact) → Said f g → Clash family rules f g
  said_clash f g (inl (m, i, (n, j, (e, x)))) =
      at_one m.name m.class n.class (member_out f m i) (subst (At g n.class) (sym e) (member_out g n j)) x
  said_clash f g (inr (inl (p, i, (q, j, (e, (o, x)))))) =
      across_one p.from p.to p.along q.along (pairing_out f p i)
      (subst (λ (a : Name). g ≡ linked q.along a p.to) (sym e) (subst (λ (b : Name). g ≡ linked q.along q.from b) (sym o) (pairing_out g q j))) x
  said_clash f g (inr (inr (p, i, (q, j, (e, (o, (m, n))))))) =
      two_partners p.from p.to q.to p.along m (pairing_out f p i)
      (subst (λ (a : Name). g ≡ linked p.along a q.to) (sym e) (subst (λ (d : Directed). g ≡ linked d q.from q.to) (sym o) (pairing_out g q j))) n

  said : (f g : Fact) → Dec (Said f g)
  said f g =
      either (some (λ m. Some (AtOdds m) (members g)) (λ m. some (AtOdds m) (λ n. both (same_name m.name n.name) (excluded family rules (classes m.class n.class))) (members g)) (members f))
      (either
      (some (λ p. Some (Crossed p) (pairings g)) (λ p. some (Crossed p) (λ q. both (same_name p.from q.from) (both (same_name p.to q.to) (excluded family rules (links p.along q.along)))) (pairings g)) (pairings f))
      (some (λ p. Some (Parted p) (pairings g))
      (λ p. some (Parted p) (λ q. both (same_name p.from q.from) (both (same_directed p.along q.along) (both (single p.along rules) (never (same_name p.to q.to))))) (pairings g)) (pairings f)))

  pub clash : (f g : Fact) → Dec (Clash family rules f g)
  clash f g = map_dec (said_clash f g) clash_said (said f g)
