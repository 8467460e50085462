-- The pairs of the exclusion closure are disjoint wherever the rules are kept.
use Rattle.theory.proofs.Lists.{each}
use Rattle.theory.proofs.Steps.{turned, unturned, keeps_climbs, reaches, link_reaches, has_link, has_at}
use Rattle.theory.specs.Clashes.{linked, Clash, at_one, across_one, two_partners}
use Rattle.theory.specs.Closure.{Exclusion, Excluded, swap, link_swap, link_turn, apart, link_apart, narrow, narrow_start, narrow_end, link_narrow, other_end, empty_link, link_empty}
use Rattle.theory.specs.Following.{Implied}
use Rattle.std.specs.List.{AllByRecursion}
use Rattle.theory.specs.Results.{Disjoint}
use Rattle.theory.specs.Worlds.{Shape, Keeps, Has, World, shape, Follows}
use Rattle.vocabulary.specs.Ranges.{NameFits, FactFits}
use Rattle.vocabulary.specs.declared.basic.Directed.{Directed}
use Rattle.vocabulary.specs.declared.basic.Directed.TheVariants.{Forward, Backward}
use Rattle.vocabulary.specs.declared.facts.Fact.{Fact}
use Rattle.vocabulary.specs.declared.numbers.Name.{Name}
use Rattle.vocabulary.specs.declared.rules.Family.{Family}
use Rattle.vocabulary.specs.declared.rules.Rule.{Rule}
use Rattle.vocabulary.specs.declared.rules.Rule.TheVariants.{Within, Apart, LinkWithin, LinkApart, Single}
use Rattle.std.proofs.Common.{◌≡◌, List, subst, inl, inr}
use mathlib.Core.List.{Memᴰ}

module _ (rules : List Rule) (s : Shape) (keeps : AllByRecursion (Keeps s) rules) where
  kept : {r : Rule} → Memᴰ r rules → Keeps s r
  kept m = each (Keeps s) keeps m

  pub disjoint : {family : Family} {e : Exclusion} → Excluded family rules e → Disjoint s e
  disjoint (swap h) = λ x p q. disjoint h x q p
  disjoint (link_swap h) = λ x y p q. disjoint h x y q p
  disjoint (link_turn {d = d} {e = e} h) = λ x y p q. disjoint h y x (turned s d x y p) (turned s e x y q)
  disjoint (apart m) = λ x p q. kept m x p q
  disjoint (link_apart m) = λ x y p q. kept m x y p q
  disjoint (narrow m h) = λ x p q. disjoint h x (kept m x p) q
  disjoint (narrow_start m h) = λ x p q. disjoint h x (p.0, kept m x p.0 p.1) q
  disjoint (narrow_end {d = d} {e = e} m h) =
      λ x p q. disjoint h x (p.0, turned s e p.0 x (kept m p.0 x (unturned s d x p.0 p.1))) q
  disjoint (link_narrow m h) = λ x y p q. disjoint h x y (kept m x y p) q
  disjoint (other_end {d = d} h) = λ x p q. let t = turned s d x p.0 p.1 in disjoint h p.0 (x, t) (x, t)
  disjoint (empty_link too h) = λ x y p q. disjoint h x (y, p) (y, q)
  disjoint (link_empty h) = λ x p q. disjoint h x p.0 p.1 p.1

fits_link : (f : Fact) (d : Directed) (a b : Name) → f ≡ linked d a b → FactFits f → NameFits a × NameFits b
fits_link f (Forward l) a b p h = let t = subst FactFits p h in (t.1, t.2)
fits_link f (Backward l) a b p h = let t = subst FactFits p h in (t.2, t.1)

-- no world keeps the rules and has two facts that clash
pub no_world : {k : Family} {rules : List Rule} {f g : Fact} → FactFits f → FactFits g → Clash k rules f g → (w : World) → AllByRecursion (Keeps (shape w)) rules → Has (shape w) f → Has (shape w) g → ⊥
no_world {rules = rules} {f = f} {g = g} ff fg (at_one a b c p q e) w keeps hf hg =
    disjoint rules (shape w) keeps e (w.thing a) (has_at (shape w) f b a p hf) (has_at (shape w) g c a q hg)
no_world {rules = rules} {f = f} {g = g} ff fg (across_one a b d e p q x) w keeps hf hg =
    disjoint rules (shape w) keeps x (w.thing a) (w.thing b) (has_link (shape w) f d a b p hf) (has_link (shape w) g e a b q hg)
no_world {rules = rules} {f = f} {g = g} ff fg (two_partners a b c d m p q n) w keeps hf hg =
    n (w.unique b c (fits_link f d a b p ff).1 (fits_link g d a c q fg).1
    (each (Keeps (shape w)) keeps m (w.thing a) (w.thing b) (w.thing c) (has_link (shape w) f d a b p hf) (has_link (shape w) g d a c q hg)))

-- what the closures say of a rule holds in every world that keeps the rules
pub implied_follows : (k : Family) (rules : List Rule) (r : Rule) → Implied k rules r → Follows rules r
implied_follows k rules (Within b c) (inl h) w ks = λ x p. reaches rules (shape w) (keeps_climbs rules (shape w) ks) h x p
implied_follows k rules (Within b c) (inr e) w ks = λ x p. absurd (disjoint rules (shape w) ks e x p p)
implied_follows k rules (Apart b c) (inl e) w ks = λ x p q. disjoint rules (shape w) ks e x p q
implied_follows k rules (Apart b c) (inr (inl e)) w ks = λ x p q. disjoint rules (shape w) ks e x p p
implied_follows k rules (Apart b c) (inr (inr e)) w ks = λ x p q. disjoint rules (shape w) ks e x q q
implied_follows k rules (LinkWithin d e) (inl h) w ks = λ x y p. link_reaches rules (shape w) (keeps_climbs rules (shape w) ks) h x y p
implied_follows k rules (LinkWithin d e) (inr h) w ks = λ x y p. absurd (disjoint rules (shape w) ks h x (y, p) (y, p))
implied_follows k rules (LinkApart d e) (inl h) w ks = λ x y p q. disjoint rules (shape w) ks h x y p q
implied_follows k rules (LinkApart d e) (inr (inl h)) w ks = λ x y p q. disjoint rules (shape w) ks h x (y, p) (y, q)
implied_follows k rules (LinkApart d e) (inr (inr (inl h))) w ks = λ x y p q. disjoint rules (shape w) ks h y (x, turned (shape w) d x y p) (x, turned (shape w) e x y q)
implied_follows k rules (LinkApart d e) (inr (inr (inr (inl h)))) w ks = λ x y p q. disjoint rules (shape w) ks h x (y, p) (y, p)
implied_follows k rules (LinkApart d e) (inr (inr (inr (inr h)))) w ks = λ x y p q. disjoint rules (shape w) ks h x (y, q) (y, q)
implied_follows k rules (Single d) (inl m) w ks = λ x y z p q. each (Keeps (shape w)) ks m x y z p q
implied_follows k rules (Single d) (inr e) w ks = λ x y z p q. absurd (disjoint rules (shape w) ks e x (y, p) (y, p))
