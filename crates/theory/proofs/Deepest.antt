-- Where no rule applies and not all atoms are facts, two atoms merge at a deepest partner.
use Rattle.std.proofs.Common.{◌≡◌, ℕ, ◌+◌, ◌<◌, ◌≤◌, ◌⊎◌, List, [], ◌∷◌, sym, ap, ◌∙◌, subst, inl, inr, ⊎_elim, arith}
use Rattle.std.proofs.lemmas.Bool.{cases_lt}
use Rattle.std.specs.List.{AllByRecursion}
use Rattle.theory.proofs.Applicable.{Bound, Settled, in_facts, bound, Any}
use Rattle.theory.proofs.Derivations.{Ground, in_class, linked, pair, ground_shape, ground, Stored, DerivedIn}
use Rattle.theory.proofs.Measures.{Summed, summed_weaker, HoldsIn}
use Rattle.theory.proofs.Merging.{holds_in_pos, settled_holds, Mergeable, joining_merge}
use Rattle.theory.proofs.Numbering.{Thing, name, child, depth}
use Rattle.theory.proofs.Occurrences.{times_at, times_atoms, none_in, in_none, in_terms, in_joining, joining_in, joining_once}
use Rattle.theory.proofs.Terms.{Respects}
use Rattle.theory.specs.Questions.{Serves, Holds}
use Rattle.theory.specs.Rewritings.{joining, Without, first, later, Merged, merged, beyond}
use Rattle.theory.specs.Tidying.{all_terms, times}
use Rattle.vocabulary.specs.declared.basic.Directed.{Directed}
use Rattle.vocabulary.specs.declared.facts.Fact.{Fact}
use Rattle.vocabulary.specs.declared.facts.Fact.TheVariants.{InClass, Linked}
use Rattle.vocabulary.specs.declared.questions.Atom.{Atom}
use Rattle.vocabulary.specs.declared.questions.Atom.TheVariants.{IsIn, Joins}
use Rattle.vocabulary.specs.declared.questions.Term.{Term}
use Rattle.vocabulary.specs.declared.questions.Term.TheVariants.{Variable}
use Rattle.vocabulary.specs.declared.rules.Rule.{Rule}

-- the things of a fact are names
abbrev pub IsName : Thing → Type 0
IsName (name a) = Unit {0}
IsName (child t d) = ⊥

abbrev OfNames : Ground → Type 0
OfNames (in_class c x) = IsName x
OfNames (linked l x y) = IsName x × IsName y

fact_of_names : (f : Fact) → OfNames (ground f)
fact_of_names (InClass c a) = tt
fact_of_names (Linked l a b) = (tt, tt)

module _ (rules : List Rule) (facts : List Fact) (v : ℕ → Thing) where
  -- so a variable of an atom that the facts say stands for a name
  stored_of_names : (g : Ground) → Stored facts g → OfNames g
  stored_of_names g s = subst OfNames s.2 (fact_of_names s.0)

  serves_name : (m : ℕ) (t : Term) (x : Thing) → IsName x → t ≡ Variable m → Serves name v t x → IsName (v m)
  serves_name m t x low e s = let p : v m ≡ x = subst (λ (u : Term). Serves name v u x) e s in subst IsName (sym p) low

  facts_named : (m : ℕ) (a : Atom) → Holds (ground_shape (Stored facts)) v a → 1 ≤ times_at m a → IsName (v m)
  unfolding all_terms
  facts_named m (IsIn c t) f h =
      ⊎_elim (λ e. serves_name m t f.0 (stored_of_names (in_class c f.0) f.2) e f.1) (λ i. in_none m i) (in_terms m t [] h)
  facts_named m (Joins l t u) f h =
      let low = stored_of_names (linked l f.0 f.1) f.4 in
      ⊎_elim (λ e. serves_name m t f.0 low.0 e f.2)
      (λ k. ⊎_elim (λ e. serves_name m u f.1 low.1 e f.3) (λ i. in_none m i) (in_terms m u [] k)) (in_terms m t (u ∷ []) h)

  -- the facts say the atom; the atom is settled with no partner deeper than y
  abbrev pub InFacts : ℕ → Atom → Type 0
  InFacts k a = Holds (ground_shape (Stored facts)) v a × HoldsIn rules facts v k a

  abbrev pub Under : Thing → ℕ → Atom → Type 0
  Under y = Settled rules facts v (λ z. depth z ≤ depth y)

  -- a variable of the atoms stands for a made partner, and none is deeper
  pub record Deepest (n : ℕ) (xs : List Atom) : Type 0 where
    pub from : Thing
    pub way : Directed
    pub far : ℕ
    pub far_is : v far ≡ child from way
    pub occurs : 1 ≤ times far (all_terms xs)
    pub under : Summed (Under (child from way)) n xs

  facts_under : (y : Thing) (k : ℕ) (a : Atom) → InFacts k a → Under y k a
  facts_under y k a h = in_facts h.0 h.1

  under_wide : (y z : Thing) → depth y ≤ depth z → (k : ℕ) (a : Atom) → Under y k a → Under z k a
  under_wide y z le k a (in_facts f h) = in_facts f h
  under_wide y z le k a (bound b c h) = bound b (omega arith) h

  bound_in : (k : ℕ) (a : Atom) (b : Bound rules facts v k a) → 1 ≤ times_at b.far a
  bound_in k a b = subst (λ (c : Atom). 1 ≤ times_at b.far c) (sym b.is) (joining_in b.far b.way b.near)

  -- of settled atoms the facts say all, or a variable stands for a deepest partner
  pub deepest : (n : ℕ) (xs : List Atom) → Summed (Settled rules facts v Any) n xs → Summed InFacts n xs ⊎ Deepest n xs
  deepest n [] h = inl tt
  deepest n (a ∷ rest) h = pick h.3 (deepest h.1 rest h.4)
    where
      with_deepest : (t : Deepest h.1 rest) → Under (child t.from t.way) h.0 a → Deepest n (a ∷ rest)
      with_deepest t s = record {
        from = t.from;
        way = t.way;
        far = t.far;
        far_is = t.far_is;
        occurs = omega (arith, times_atoms t.far a rest, t.occurs);
        under = (h.0, h.1, h.2, s, t.under);
      }

      itself : (b : Bound rules facts v h.0 a) → HoldsIn rules facts v h.0 a → Summed (Under (child b.from b.way)) h.1 rest → Deepest n (a ∷ rest)
      itself b g s = record {
        from = b.from;
        way = b.way;
        far = b.far;
        far_is = b.far_is;
        occurs = omega (arith, times_atoms b.far a rest, bound_in h.0 a b);
        under = (h.0, h.1, h.2, bound b (omega arith) g, s);
      }

      pick : Settled rules facts v Any h.0 a → Summed InFacts h.1 rest ⊎ Deepest h.1 rest → Summed InFacts n (a ∷ rest) ⊎ Deepest n (a ∷ rest)
      pick (in_facts f g) (inl s) = inl (h.0, h.1, h.2, (f, g), s)
      pick (in_facts f g) (inr t) = inr (with_deepest t (in_facts f g))
      pick (bound b c g) (inl s) =
          let y = child b.from b.way in
          inr (itself b g (summed_weaker InFacts (Under y) (facts_under y) h.1 rest s))
      pick (bound b c g) (inr t) =
          let y = child b.from b.way in
          let z = child t.from t.way in
          inr (⊎_elim (λ (lt : depth z < depth y). itself b g (summed_weaker (Under z) (Under y) (under_wide z y (omega arith)) h.1 rest t.under))
          (λ (le : depth y ≤ depth z). with_deepest t (bound b le g)) (cases_lt (depth z) (depth y)))

  -- the facts say all atoms
  pub facts_all : (n : ℕ) (xs : List Atom) → Summed InFacts n xs → AllByRecursion (Holds (ground_shape (Stored facts)) v) xs
  facts_all n [] h = tt
  facts_all n (a ∷ rest) h = (h.3.0, facts_all h.1 rest h.4)

  -- the variable of a deepest partner stands only at the far end of its link
  module _ (x : Thing) (d : Directed) (m : ℕ) (far_is : v m ≡ child x d) where
    pub record Found (k : ℕ) (a : Atom) : Type 0 where
      pub near : Term
      pub is : a ≡ joining d near (Variable m)
      pub near_is : Serves name v near x
      pub steps : DerivedIn rules facts k (pair d x (child x d))

    found : (k : ℕ) (a : Atom) → Under (child x d) k a → 1 ≤ times_at m a → Found k a
    unfolding depth
    found k a (in_facts f g) c = absurd (subst IsName far_is (facts_named m a f c))
    found k a (bound b le g) c =
        ⊎_elim (λ e. absurd (at_near e)) (λ e. at_far e) (in_joining m b.way b.near b.far (subst (λ (e : Atom). 1 ≤ times_at m e) b.is c))
      where
        at_near : b.near ≡ Variable m → ⊥
        at_near e =
            let p : v m ≡ b.from = subst (λ (u : Term). Serves name v u b.from) e b.near_is in
            omega (arith, ap depth p, ap depth far_is)

        at_far : b.far ≡ m → Found k a
        at_far e =
            let one : child b.from b.way ≡ child x d = sym b.far_is ∙ (ap v e ∙ far_is) in
            let same : (b.from ≡ x) × (b.way ≡ d) = (cc, cc) in
            record {
              near = b.near;
              is = b.is ∙ (λ i. joining (same.1 i) b.near (Variable (e i)));
              near_is = subst (Serves name v b.near) same.0 b.near_is;
              steps = subst (DerivedIn rules facts k) (λ i. pair (same.1 i) (same.0 i) (child (same.0 i) (same.1 i))) b.steps;
            }

    -- an atom with the variable, taken out
    pub record Gone (n : ℕ) (xs : List Atom) : Type 0 where
      pub atom : Atom
      pub others : List Atom
      pub without : Without atom xs others
      pub near : Term
      pub is : atom ≡ joining d near (Variable m)
      pub near_is : Serves name v near x
      pub left : ℕ
      pub less : left < n
      pub held : Summed (HoldsIn rules facts v) left others

    gone : (n : ℕ) (xs : List Atom) → Summed (Under (child x d)) n xs → 1 ≤ times m (all_terms xs) → Gone n xs
    gone n [] h c = absurd (omega (arith, none_in m))
    gone n (a ∷ rest) h c = ⊎_elim this (λ z. onward (gone h.1 rest h.4 (omega (arith, times_atoms m a rest)))) (cases_lt 0 (times_at m a))
      where
        this : 1 ≤ times_at m a → Gone n (a ∷ rest)
        this i =
            let f = found h.0 a h.3 i in
            record {
              atom = a;
              others = rest;
              without = first;
              near = f.near;
              is = f.is;
              near_is = f.near_is;
              left = h.1;
              less = omega (arith, h.2, holds_in_pos rules facts v h.0 a (settled_holds rules facts v (λ z. depth z ≤ depth (child x d)) h.0 a h.3));
              held = summed_weaker (Under (child x d)) (HoldsIn rules facts v) (settled_holds rules facts v (λ z. depth z ≤ depth (child x d))) h.1 rest h.4;
            }

        onward : Gone h.1 rest → Gone n (a ∷ rest)
        onward g = record {
          atom = g.atom;
          others = a ∷ g.others;
          without = later g.without;
          near = g.near;
          is = g.is;
          near_is = g.near_is;
          left = h.0 + g.left;
          less = omega (arith, h.2, g.less);
          held = (h.0, g.left, omega arith, settled_holds rules facts v (λ z. depth z ≤ depth (child x d)) h.0 a h.3, g.held);
        }

    -- where the variable stands twice, two atoms merge, which leaves fewer steps
    pub record Fewer (n : ℕ) (xs : List Atom) : Type 0 where
      pub change : Term → Term
      pub others : List Atom
      pub step : Merged change xs others
      pub respects : Respects name v v change
      pub left : ℕ
      pub less : left < n
      pub held : Summed (HoldsIn rules facts v) left others

    pub fewer : (n : ℕ) (xs : List Atom) → Summed (Under (child x d)) n xs → 2 ≤ times m (all_terms xs) → Fewer n xs
    unfolding depth
    fewer n [] h c = absurd (omega (arith, none_in m))
    fewer n (a ∷ rest) h c = ⊎_elim this (λ z. onward (fewer h.1 rest h.4 (omega (arith, times_atoms m a rest)))) (cases_lt 0 (times_at m a))
      where
        onward : Fewer h.1 rest → Fewer n (a ∷ rest)
        onward g = record {
          change = g.change;
          others = a ∷ g.others;
          step = beyond g.step;
          respects = g.respects;
          left = h.0 + g.left;
          less = omega (arith, h.2, g.less);
          held = (h.0, g.left, omega arith, settled_holds rules facts v (λ z. depth z ≤ depth (child x d)) h.0 a h.3, g.held);
        }

        this : 1 ≤ times_at m a → Fewer n (a ∷ rest)
        this i =
            let f = found h.0 a h.3 i in
            let not-near : f.near ≡ Variable m → ⊥ = λ e.
            (let p : v m ≡ x = subst (λ (u : Term). Serves name v u x) e f.near_is in omega (arith, ap depth p, ap depth far_is)) in
            let once : times_at m a ≤ 1 = subst (λ (e : Atom). times_at m e ≤ 1) (sym f.is) (joining_once m d f.near not-near) in
            let g = gone h.1 rest h.4 (omega (arith, times_atoms m a rest)) in
            let j : Mergeable rules facts v h.0 a g.atom =
            subst (λ (e : Atom). Mergeable rules facts v h.0 e g.atom) (sym f.is)
            (subst (λ (e : Atom). Mergeable rules facts v h.0 (joining d f.near (Variable m)) e) (sym g.is)
            (joining_merge rules facts v h.0 d f.near g.near m x (child x d) f.near_is g.near_is far_is f.steps)) in
            record {
              change = j.1;
              others = j.0 ∷ g.others;
              step = merged {c = j.0} j.2 g.without;
              respects = j.3;
              left = h.0 + g.left;
              less = omega (arith, h.2, g.less);
              held = (h.0, g.left, omega arith, j.4, g.held);
            }
