-- The canonical world of rules and facts: it keeps the rules and has the facts, unless two facts clash.
use Rattle.std.proofs.Common.{◌≡◌, ℕ, ◌↔◌, List, sym, refl, ap, ◌∙◌, subst, arith}
use mathlib.Core.List.{Memᴰ}
use Rattle.vocabulary.specs.declared.numbers.Name.{Name}
use Rattle.vocabulary.specs.declared.basic.Directed.{Directed}
use Rattle.vocabulary.specs.declared.basic.Directed.TheVariants.{Forward, Backward}
use Rattle.vocabulary.specs.declared.basic.Basic.{Basic}
use Rattle.vocabulary.specs.declared.basic.Basic.TheVariants.{Named, Start}
use Rattle.vocabulary.specs.declared.rules.Family.{Family}
use Rattle.vocabulary.specs.declared.rules.Rule.{Rule}
use Rattle.vocabulary.specs.declared.rules.Rule.TheVariants.{Within, Apart, LinkWithin, LinkApart, Single}
use Rattle.vocabulary.specs.declared.facts.Fact.{Fact}
use Rattle.vocabulary.specs.declared.facts.Fact.TheVariants.{InClass, Linked}
use Rattle.vocabulary.specs.Ranges.{FactFits}
use Rattle.std.specs.List.{AllByRecursion}
use Rattle.theory.specs.Worlds.{World, shape, Pair, In, Keeps, Has, SiteWorld}
use Rattle.vocabulary.specs.Codes.{turn}
use Rattle.theory.specs.Closure.{classes, links, Excluded, apart, link_apart, other_end, link_empty}
use Rattle.theory.specs.Reaching.{LinkStep, along, Step, by_rule, Reaches, here, then}
use Rattle.theory.specs.Clashes.{at_one, across_one, two_partners, Calm, Lawful}
use Rattle.theory.proofs.Lists.{Some, each, every}
use Rattle.theory.proofs.Decisions.{both, truth, pass, passed}
use Rattle.theory.proofs.Reached.{same_name, turned_reach, start_reach, beyond, once, narrowed_both, links_narrowed_both}
use Rattle.vocabulary.proofs.Codes.{turn_turn}
use Rattle.theory.proofs.Numbering.{Thing, name, child, depth, number, thing as thing-of, thing_number, number_thing}
use Rattle.theory.proofs.Things.{Belongs, Alive, Blocked, Partnered, Joined, told, down, up, belongs, alive, blocked, joined, Across, linked_turn}
use Rattle.theory.proofs.Exclusions.{no_world}

module _ (rules : List Rule) (facts : List Fact) where
  pub widen : (t : Thing) {b c : Basic} → Belongs rules facts t b → Reaches (Step rules) b c → Belongs rules facts t c
  widen (name a) (f, m, (c, p, r)) s = (f, m, (c, p, beyond r s))
  widen (child t d) h s = beyond h s

  -- where a pair starts
  pub begins : {d : Directed} {x y : Thing} → Joined rules facts d x y → Alive rules facts x × Belongs rules facts x (Start d)
  begins {d = d} {x = x} {y = y} (told a b p q (f, m, (e, l, r))) =
      subst (λ (t : Thing). Alive rules facts t × Belongs rules facts t (Start d)) (sym p) (tt, (f, m, (Start e, (b, l), start_reach r)))
  begins {d = d} {x = x} {y = y} (down e p l r) =
      let m = subst (Alive rules facts) p l in
      (m.0, widen x m.1 (start_reach r))
  begins {d = d} {x = x} {y = y} (up e p l r) = (l, subst (λ t. Belongs rules facts t (Start d)) (sym p) (start_reach r))

  pub partner : (x : Thing) (d : Directed) → Alive rules facts x → Belongs rules facts x (Start d) → (y : Thing) × Joined rules facts d x y
  partner x d l h = elim (blocked rules facts x d) [ no n ↦ (child x d, down d refl (l, h, n) here) | yes b ↦ have x l b.1 ]
    where
      have : (t : Thing) → Alive rules facts t → Partnered rules facts t d → (y : Thing) × Joined rules facts d t y
      have (name a) l (f, m, (b, p)) = (name b, told a b refl refl (f, m, (d, p, here)))
      have (child t e) l p = (t, up e refl l (subst (λ k. Reaches (LinkStep rules) (turn e) k) (ap turn p ∙ turn_turn d) here))

  pub turned_joined : {d : Directed} {x y : Thing} → Joined rules facts d x y → Joined rules facts (turn d) y x
  turned_joined (told a b p q (f, m, (e, l, r))) = told b a q p (f, m, (turn e, l ∙ sym (linked_turn e a b), turned_reach r))
  turned_joined (down e p l r) = up e p l (turned_reach r)
  turned_joined {d = d} (up e p l r) = down e p l (subst (λ k. Reaches (LinkStep rules) k (turn d)) (turn_turn e) (turned_reach r))

  pub wider_joined : {d e : Directed} {x y : Thing} → Joined rules facts d x y → Reaches (LinkStep rules) d e → Joined rules facts e x y
  wider_joined (told a b p q (f, m, (c, l, r))) s = told a b p q (f, m, (c, l, beyond r s))
  wider_joined (down c p l r) s = down c p l (beyond r s)
  wider_joined (up c p l r) s = up c p l (beyond r s)

  -- the canonical world
  pub canonical : World
  canonical = record {
    thing = λ a. number (name a);
    unique = λ a b _ _ p. let q : name a ≡ name b = sym (thing_number (name a)) ∙ ap thing-of p ∙ thing_number (name b) in cc;
    class = λ c x. truth (both (alive rules facts (thing-of x)) (belongs rules facts (thing-of x) (Named c)));
    link = λ l x y. truth (joined rules facts (Forward l) (thing-of x) (thing-of y));
  }

  pub pair_joined : (d : Directed) (x y : ℕ) → Pair (shape canonical) d x y → Joined rules facts d (thing-of x) (thing-of y)
  unfolding canonical
  pair_joined (Forward l) x y p = passed (joined rules facts (Forward l) (thing-of x) (thing-of y)) p
  pair_joined (Backward l) x y p = turned_joined (passed (joined rules facts (Forward l) (thing-of y) (thing-of x)) p)

  pub joined_pair : (d : Directed) (x y : ℕ) → Joined rules facts d (thing-of x) (thing-of y) → Pair (shape canonical) d x y
  unfolding canonical
  joined_pair (Forward l) x y p = pass (joined rules facts (Forward l) (thing-of x) (thing-of y)) p
  joined_pair (Backward l) x y p = pass (joined rules facts (Forward l) (thing-of y) (thing-of x)) (turned_joined p)

  pub in_has : (b : Basic) (x : ℕ) → In (shape canonical) b x → Alive rules facts (thing-of x) × Belongs rules facts (thing-of x) b
  unfolding canonical
  in_has (Named c) x p = passed (both (alive rules facts (thing-of x)) (belongs rules facts (thing-of x) (Named c))) p
  in_has (Start d) x (y, p) = begins (pair_joined d x y p)

  pub has_in : (b : Basic) (x : ℕ) → Alive rules facts (thing-of x) → Belongs rules facts (thing-of x) b → In (shape canonical) b x
  unfolding canonical
  has_in (Named c) x l h = pass (both (alive rules facts (thing-of x)) (belongs rules facts (thing-of x) (Named c))) (l, h)
  has_in (Start d) x l h =
      let t = partner (thing-of x) d l h in
      (number t.0, joined_pair d x (number t.0) (subst (λ (u : Thing). Joined rules facts d (thing-of x) u) (sym (thing_number t.0)) t.1))

  -- the thing of a name
  pub named : (a : Name) → thing-of (canonical.thing a) ≡ name a
  unfolding canonical
  named a = thing_number (name a)

  pub told_in : (f : Fact) → Memᴰ f facts → Has (shape canonical) f
  told_in (InClass c a) m =
      has_in (Named c) (canonical.thing a)
      (subst (Alive rules facts) (sym (named a)) tt)
      (subst (λ (t : Thing). Belongs rules facts t (Named c)) (sym (named a)) (InClass c a, m, (Named c, refl, here)))
  told_in (Linked l a b) m =
      joined_pair (Forward l) (canonical.thing a) (canonical.thing b)
      (told a b (named a) (named b) (Linked l a b, m, (Forward l, refl, here)))

no_circle : (x y : Thing) (d e : Directed) → y ≡ child x d → x ≡ child y e → ⊥
unfolding depth
no_circle x y d e p q = omega (arith, ap depth p, ap depth q)

not_both : (x t : Thing) (d : Directed) (a : Name) → x ≡ name a → x ≡ child t d → ⊥
not_both x t d a p q = let z : ◌≡◌ {A = ℕ} 0 1 = cc in omega arith

-- a link with at most one partner has nothing below it
only : {rules : List Rule} → Lawful rules → {d e : Directed} → Memᴰ (Single d) rules → Reaches (LinkStep rules) e d → e ≡ d
only lawful m here = refl
only {rules} lawful m (then {a = a} {b = b} {c = c} s r) = absurd (lawful c a m (subst (λ (k : Directed). LinkStep rules a k) (only lawful m r) s))

module _ (k : Family) (rules : List Rule) (facts : List Fact) (calm : Calm k rules facts) where
  -- nothing has two classes that exclude one another
  clean : (t : Thing) {b c : Basic} → Alive rules facts t → Belongs rules facts t b → Belongs rules facts t c → Excluded k rules (classes b c) → ⊥
  clean (name a) l (f, m, (b, p, r)) (g, n, (c, q, s)) e = calm f g m n (at_one a b c p q (narrowed_both r s e))
  clean (child t d) l r s e = let h = l.1 in clean t l.0 h h (other_end (narrowed_both r s e))

  clean_links : {d e : Directed} {x y : Thing} → Joined rules facts d x y → Joined rules facts e x y → Excluded k rules (links d e) → ⊥
  clean_links {x = x} {y = y} (told a b p q (f, m, (d, u, r))) (told a' b' p' q' (g, n, (e, v, s))) h =
      calm f g m n (across_one a b d e u (cc) (links_narrowed_both r s h))
  clean_links {x = x} {y = y} (told a b p q s) (down e p' l r) h = not_both y x e b q p'
  clean_links {x = x} {y = y} (told a b p q s) (up e p' l r) h = not_both x y e a p p'
  clean_links {x = x} {y = y} (down e p l r) (told a b p' q s) h = not_both y x e b q p
  clean_links {e = e'} {x = x} {y = y} (down d p l r) (down e q l' s) h =
      let o : e ≡ d = cc in
      let t = subst (λ (z : Directed). Reaches (LinkStep rules) z e') o s in
      let m = subst (Alive rules facts) p l in
      clean x m.0 m.1 m.1 (link_empty (links_narrowed_both r t h))
  clean_links {x = x} {y = y} (down d p l r) (up e q l' s) h = no_circle x y d e p q
  clean_links {x = x} {y = y} (up e p l r) (told a b p' q s) h = not_both x y e a p' p
  clean_links {x = x} {y = y} (up d p l r) (down e q l' s) h = no_circle x y e d q p
  clean_links {e = e'} {x = x} {y = y} (up d p l r) (up e q l' s) h =
      let o : e ≡ d = cc in
      let t = subst (λ (z : Directed). Reaches (LinkStep rules) (turn z) e') o s in
      clean (child y d) (subst (Alive rules facts) p l) here here (link_empty (links_narrowed_both r t h))

  module _ (lawful : Lawful rules) where
    -- no further partner is made for what has one
    not_made : {d : Directed} {x y : Thing} (e : Directed) → Memᴰ (Single d) rules → Partnered rules facts x d → y ≡ child x e → Alive rules facts y → Reaches (LinkStep rules) e d → ⊥
    not_made {x = x} e m h p l r = (subst (Alive rules facts) p l).2 (subst (Blocked rules facts x) (sym (only lawful m r)) (m, h))

    told_partner : {d : Directed} {x : Thing} (a b : Name) → Memᴰ (Single d) rules → x ≡ name a → Some (Across rules facts d a b) facts → Partnered rules facts x d
    told_partner {d} a b m p (f, i, (e, u, r)) =
        let h = only lawful m r in
        subst (λ (t : Thing). Partnered rules facts t d) (sym p) (f, i, (b, cc))

    up_partner : {d : Directed} {x : Thing} (y : Thing) (e : Directed) → Memᴰ (Single d) rules → x ≡ child y e → Reaches (LinkStep rules) (turn e) d → Partnered rules facts x d
    up_partner {d} y e m p r = subst (λ (t : Thing). Partnered rules facts t d) (sym p) (sym (turn_turn e) ∙ ap turn (only lawful m r))

    one_partner : {d : Directed} {x y z : Thing} → Memᴰ (Single d) rules → Joined rules facts d x y → Joined rules facts d x z → y ≡ z
    one_partner {d} {x} {y} {z} m (told a b p q (f, i, (e, u, r))) (told a' b' p' q' (g, j, (e', v, s))) =
        let h = only lawful m r in
        let h' = only lawful m s in
        elim (same_name b b') [ yes o ↦ cc | no o ↦ absurd (calm f g i j (two_partners a b b' d m (cc) (cc) o)) ]
    one_partner {d} {x} {y} {z} m (told a b p q s) (down e p' l r) = absurd (not_made e m (told_partner a b m p s) p' l r)
    one_partner {d} {x} {y} {z} m (told a b p q s) (up e p' l r) = absurd (not_both x z e a p p')
    one_partner {d} {x} {y} {z} m (down e p' l r) (told a b p q s) = absurd (not_made e m (told_partner a b m p s) p' l r)
    one_partner {d} {x} {y} {z} m (down e p l r) (down e' p' l' s) = let h = only lawful m r in let h' = only lawful m s in cc
    one_partner {d} {x} {y} {z} m (down e p l r) (up e' p' l' s) = absurd (not_made e m (up_partner z e' m p' s) p l r)
    one_partner {d} {x} {y} {z} m (up e p' l r) (told a b p q s) = absurd (not_both x y e a p p')
    one_partner {d} {x} {y} {z} m (up e' p' l' s) (down e p l r) = absurd (not_made e m (up_partner y e' m p' s) p l r)
    one_partner {d} {x} {y} {z} m (up e p l r) (up e' p' l' s) = cc

    keeps : (r : Rule) → Memᴰ r rules → Keeps (shape (canonical rules facts)) r
    keeps (Within b c) m = λ x p.
        let t = in_has rules facts b x p in
        has_in rules facts c x t.0 (widen rules facts (thing-of x) t.1 (once (by_rule m)))
    keeps (Apart b c) m = λ x p q.
        let t = in_has rules facts b x p in
        clean (thing-of x) t.0 t.1 (in_has rules facts c x q).1 (apart m)
    keeps (LinkWithin d e) m = λ x y p. joined_pair rules facts e x y (wider_joined rules facts (pair_joined rules facts d x y p) (once (along m)))
    keeps (LinkApart d e) m = λ x y p q. clean_links (pair_joined rules facts d x y p) (pair_joined rules facts e x y q) (link_apart m)
    keeps (Single d) m = λ x y z p q. sym (number_thing y) ∙ ap number (one_partner m (pair_joined rules facts d x y p) (pair_joined rules facts d x z q)) ∙ number_thing z

    pub keeps_all : AllByRecursion (Keeps (shape (canonical rules facts))) rules
    keeps_all = every (Keeps (shape (canonical rules facts))) rules keeps

    -- facts that do not clash have a world that keeps the rules
    abbrev pub site_world : SiteWorld rules facts
    site_world = record { world = canonical rules facts; keeps = keeps_all; has = every (Has (shape (canonical rules facts))) facts (told_in rules facts) }

-- there is a world for the facts just where no two of them clash
pub site : (k : Family) (rules : List Rule) (facts : List Fact) → Lawful rules → AllByRecursion FactFits facts → SiteWorld rules facts ↔ Calm k rules facts
site k rules facts lawful fit = (
  (λ s f g m n c. no_world (each FactFits fit m) (each FactFits fit n) c s.world s.keeps (each (Has (shape s.world)) s.has m) (each (Has (shape s.world)) s.has n)),
  λ calm. site_world k rules facts calm lawful,
)
