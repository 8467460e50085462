-- Where a rule applies to an atom of a question that holds by derivations.
use Rattle.std.proofs.Common.{◌≡◌, ℕ, ◌+◌, ◌<◌, ◌≤◌, ◌⊎◌, List, [], ◌∷◌, refl, inl, inr, arith}
use Rattle.theory.proofs.Derivations.{in_class, linked, pair, witness, Derived, ground_shape, Stored, size, DerivedIn}
use Rattle.theory.proofs.Derivations as Derivations
use Rattle.theory.proofs.Measures.{Summed, HoldsIn}
use Rattle.theory.proofs.Numbering.{Thing, name, child}
use Rattle.theory.specs.Questions.{Holds, Serves}
use Rattle.theory.specs.Rewritings.{about, joining, Becomes, narrower, Replaced, here, there}
use Rattle.theory.specs.Rewritings as Rewritings
use Rattle.vocabulary.specs.declared.basic.Basic.{Basic}
use Rattle.vocabulary.specs.declared.basic.Basic.TheVariants.{Named, Start}
use Rattle.vocabulary.specs.declared.basic.Directed.{Directed}
use Rattle.vocabulary.specs.declared.basic.Directed.TheVariants.{Forward, Backward}
use Rattle.vocabulary.specs.declared.facts.Fact.{Fact}
use Rattle.vocabulary.specs.declared.numbers.Class.{Class}
use Rattle.vocabulary.specs.declared.numbers.Link.{Link}
use Rattle.vocabulary.specs.declared.questions.Atom.{Atom}
use Rattle.vocabulary.specs.declared.questions.Atom.TheVariants.{IsIn, Joins}
use Rattle.vocabulary.specs.declared.questions.Term.{Term}
use Rattle.vocabulary.specs.declared.questions.Term.TheVariants.{Variable, Constant, Open}
use Rattle.vocabulary.specs.declared.rules.Rule.{Rule}

-- a variable stands where the derivation of the atom ends in the making of a partner
pub record Bound (rules : List Rule) (facts : List Fact) (v : ℕ → Thing) (k : ℕ) (a : Atom) : Type 0 where
  pub way : Directed
  pub near : Term
  pub far : ℕ
  pub from : Thing
  pub is : a ≡ joining way near (Variable far)
  pub near_is : Serves name v near from
  pub far_is : v far ≡ child from way
  pub steps : DerivedIn rules facts k (pair way from (child from way))

-- an atom to which no rule applies: the facts say it, or it is bound and its partner is within a limit
pub data Settled (rules : List Rule) (facts : List Fact) (v : ℕ → Thing) (limit : Thing → Type 0) (k : ℕ) (a : Atom) : Type 0 where
  in_facts : Holds (ground_shape (Stored facts)) v a → HoldsIn rules facts v k a → Settled rules facts v limit k a
  bound : (b : Bound rules facts v k a) → limit (child b.from b.way) → HoldsIn rules facts v k a → Settled rules facts v limit k a

-- no limit
abbrev pub Any : Thing → Type 0
Any z = Unit {0}

module _ (rules : List Rule) (facts : List Fact) (v : ℕ → Thing) where
  -- a rule applies to the atom, and what it becomes takes fewer steps
  abbrev Applies : ℕ → Atom → Type 0
  Applies k a = (b : Atom) × Becomes rules a b × (j : ℕ) × (j < k) × HoldsIn rules facts v j b

  abbrev Classified : ℕ → Atom → Type 0
  Classified k a = Settled rules facts v Any k a ⊎ Applies k a

  -- what an atom becomes by a rule holds by what is left of its derivation
  holds_in_about : (b : Basic) (t : Term) (x y : Thing) (d : Derived rules facts (witness b x y)) → Serves name v t x → HoldsIn rules facts v (size rules facts d) (about b t)
  holds_in_about (Named c) t x y d s = (x, s, (d, omega arith))
  holds_in_about (Start (Forward l)) t x y d s = (x, y, s, tt, (d, omega arith))
  holds_in_about (Start (Backward l)) t x y d s = (y, x, tt, s, (d, omega arith))

  holds_in_joining : (e : Directed) (t u : Term) (x y : Thing) (d : Derived rules facts (pair e x y)) → Serves name v t x → Serves name v u y → HoldsIn rules facts v (size rules facts d) (joining e t u)
  holds_in_joining (Forward l) t u x y d p q = (x, y, p, q, (d, omega arith))
  holds_in_joining (Backward l) t u x y d p q = (y, x, q, p, (d, omega arith))

  -- every atom that holds by a derivation is settled, or a rule applies
  classify_class : (k : ℕ) (c : Class) (t : Term) (x : Thing) (d : Derived rules facts (in_class c x)) → size rules facts d ≤ k → Serves name v t x → Classified k (IsIn c t)
  unfolding size
  classify_class k c t x (Derivations.given s) le p = inl (in_facts (x, p, s) (x, p, (Derivations.given s, le)))
  classify_class k c t x (Derivations.within {b = b} m y d) le p = inr (about b t, narrower m, size rules facts d, omega (arith, le), holds_in_about b t x y d p)

  classify_link : (k : ℕ) (l : Link) (t u : Term) (x y : Thing) (d : Derived rules facts (linked l x y)) → size rules facts d ≤ k → Serves name v t x → Serves name v u y → Classified k (Joins l t u)
  unfolding size
  classify_link k l t u x y (Derivations.given s) le p q = inl (in_facts (x, y, p, q, s) (x, y, p, q, (Derivations.given s, le)))
  classify_link k l t u x y (Derivations.links {d = e} m d) le p q = inr (joining e t u, Rewritings.links m, size rules facts d, omega (arith, le), holds_in_joining e t u x y d p q)
  classify_link k l t u x y (Derivations.turned {d = e} m d) le p q = inr (joining e u t, Rewritings.turned m, size rules facts d, omega (arith, le), holds_in_joining e u t y x d q p)
  classify_link k l t Open x y (Derivations.starts {b = b} m z d) le p q = inr (about b t, Rewritings.starts m, size rules facts d, omega (arith, le), holds_in_about b t x z d p)
  classify_link k l t (Variable n) x y (Derivations.starts {b = b} m z d) le p q = inl (bound (record { way = Forward l; near = t; far = n; from = x; is = refl; near_is = p; far_is = q; steps = (Derivations.starts m z d, le) }) tt (x, y, p, q, (Derivations.starts m z d, le)))
  classify_link k l t (Constant a) x y (Derivations.starts m z d) le p q = absurd (let e : ◌≡◌ {A = ℕ} 0 1 = cc in omega arith)
  classify_link k l Open u x y (Derivations.ends {b = b} m z d) le p q = inr (about b u, Rewritings.ends m, size rules facts d, omega (arith, le), holds_in_about b u y z d q)
  classify_link k l (Variable n) u x y (Derivations.ends {b = b} m z d) le p q = inl (bound (record { way = Backward l; near = u; far = n; from = y; is = refl; near_is = q; far_is = p; steps = (Derivations.ends m z d, le) }) tt (x, y, p, q, (Derivations.ends m z d, le)))
  classify_link k l (Constant a) u x y (Derivations.ends m z d) le p q = absurd (let e : ◌≡◌ {A = ℕ} 0 1 = cc in omega arith)
  classify_link k l t Open x y (Derivations.again z d) le p q = classify_link k l t Open x z d (omega (arith, le)) p tt
  classify_link k l t (Variable n) x y (Derivations.again z d) le p q = inl (bound (record { way = Forward l; near = t; far = n; from = x; is = refl; near_is = p; far_is = q; steps = (Derivations.again z d, le) }) tt (x, y, p, q, (Derivations.again z d, le)))
  classify_link k l t (Constant a) x y (Derivations.again z d) le p q = absurd (let e : ◌≡◌ {A = ℕ} 0 1 = cc in omega arith)
  classify_link k l Open u x y (Derivations.again_back z d) le p q = classify_link k l Open u z y d (omega (arith, le)) tt q
  classify_link k l (Variable n) u x y (Derivations.again_back z d) le p q = inl (bound (record { way = Backward l; near = u; far = n; from = y; is = refl; near_is = q; far_is = p; steps = (Derivations.again_back z d, le) }) tt (x, y, p, q, (Derivations.again_back z d, le)))
  classify_link k l (Constant a) u x y (Derivations.again_back z d) le p q = absurd (let e : ◌≡◌ {A = ℕ} 0 1 = cc in omega arith)

  classify : (k : ℕ) (a : Atom) → HoldsIn rules facts v k a → Classified k a
  classify k (IsIn c t) h = classify_class k c t h.0 h.2.0 h.2.1 h.1
  classify k (Joins l t u) h = classify_link k l t u h.0 h.1 h.4.0 h.4.1 h.2 h.3

  -- all atoms are settled, or a rule applies to one of them, which leaves fewer steps in all
  unfoldable pub Replaces : ℕ → List Atom → Type 0
  Replaces n xs = (ys : List Atom) × Replaced (Becomes rules) xs ys × (m : ℕ) × (m < n) × Summed (HoldsIn rules facts v) m ys

  pub searched : (n : ℕ) (xs : List Atom) → Summed (HoldsIn rules facts v) n xs → Summed (Settled rules facts v Any) n xs ⊎ Replaces n xs
  unfolding Replaces
  searched n [] h = inl tt
  searched n (a ∷ rest) h = pick (classify h.0 a h.3) (searched h.1 rest h.4)
    where
      pick : Classified h.0 a → Summed (Settled rules facts v Any) h.1 rest ⊎ Replaces h.1 rest → Summed (Settled rules facts v Any) n (a ∷ rest) ⊎ Replaces n (a ∷ rest)
      pick (inr r) w = inr (r.0 ∷ rest, here r.1, r.2 + h.1, omega (arith, r.3, h.2), (r.2, h.1, omega arith, r.4, h.4))
      pick (inl s) (inl t) = inl (h.0, h.1, h.2, s, t)
      pick (inl s) (inr w) = inr (a ∷ w.0, there w.1, h.0 + w.2, omega (arith, w.3, h.2), (h.0, w.2, omega arith, h.3, w.4))
