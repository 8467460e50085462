-- How often a variable stands among terms and in atoms.
use Rattle.vocabulary.specs.Equality.{term_eq}
use Rattle.std.proofs.Common.{◌≡◌, ℕ, suc, ◌+◌, ◌≤◌, true, false, cond, eqb, ◌⊎◌, List, [], ◌∷◌, sym, refl, ap, subst, inl, inr, ⊎_elim, arith}
use Rattle.std.proofs.lemmas.Bool.{eq-eqb, ne_eqb, cond_both, cond-true, cond-false, cases_eq}
use Rattle.theory.specs.Rewritings.{joining}
use Rattle.theory.specs.Tidying.{all_terms, times}
use Rattle.vocabulary.specs.declared.basic.Directed.{Directed}
use Rattle.vocabulary.specs.declared.basic.Directed.TheVariants.{Forward, Backward}
use Rattle.vocabulary.specs.declared.questions.Atom.{Atom}
use Rattle.vocabulary.specs.declared.questions.Atom.TheVariants.{IsIn, Joins}
use Rattle.vocabulary.specs.declared.questions.Term.{Term}
use Rattle.vocabulary.specs.declared.questions.Term.TheVariants.{Variable, Constant, Open}
use mathlib.Core.List.Memᴰ
use mathlib.Core.List.{Memᴰ}

-- one term more: the variable itself, another variable, any term
pub times_here : (n : ℕ) (ts : List Term) → times n (Variable n ∷ ts) ≡ suc (times n ts)
unfolding times
times_here n ts = cond-true (eqb n n) (suc (times n ts)) (times n ts) (eq-eqb n n refl)

pub times_other : (n m : ℕ) (ts : List Term) → (n ≡ m → ⊥) → times n (Variable m ∷ ts) ≡ times n ts
unfolding times
times_other n m ts h = cond-false (eqb n m) (suc (times n ts)) (times n ts) (ne_eqb n m h)

pub times_more : (n : ℕ) (t : Term) (ts : List Term) → times n ts ≤ times n (t ∷ ts)
unfolding times
times_more n (Variable m) ts = cond_both (eqb n m) (suc (times n ts)) (times n ts) (λ k. times n ts ≤ k) (λ e. omega arith) (λ e. omega arith)
times_more n (Constant a) ts = omega arith
times_more n Open ts = omega arith

pub times_cons : (m : ℕ) (t : Term) (ts : List Term) → times m (t ∷ ts) ≡ times m (t ∷ []) + times m ts
unfolding times
times_cons m t ts =
    elim (term_eq (Variable m) t) as (λ b. cond b (suc (times m ts)) (times m ts) ≡ cond b 1 0 + times m ts) [ true ↦ omega arith | false ↦ omega arith ]

-- a variable that stands among terms is one of them
in_variable : (m n : ℕ) (ts : List Term) → 1 ≤ times m (Variable n ∷ ts) → (n ≡ m) ⊎ (1 ≤ times m ts)
in_variable m n ts h = pick (cases_eq m n)
  where
    pick : (m ≡ n) ⊎ (m ≡ n → ⊥) → (n ≡ m) ⊎ (1 ≤ times m ts)
    pick (inl e) = inl (sym e)
    pick (inr d) = inr (subst (λ (k : ℕ). 1 ≤ k) (times_other m n ts d) h)

pub in_terms : (m : ℕ) (t : Term) (ts : List Term) → 1 ≤ times m (t ∷ ts) → (t ≡ Variable m) ⊎ (1 ≤ times m ts)
unfolding times
in_terms m (Variable n) ts h = ⊎_elim (λ e. inl (ap Variable e)) (λ k. inr k) (in_variable m n ts h)
in_terms m (Constant a) ts h = inr h
in_terms m Open ts h = inr h

pub in_none : {A : Type 0} (m : ℕ) → 1 ≤ times m [] → A
unfolding times
in_none m h = absurd (omega arith)

pub times_in : (m : ℕ) (ts : List Term) → Memᴰ (Variable m) ts → 1 ≤ times m ts
times_in m [] k = absurd (Memᴰ.not-nil k)
times_in m (t ∷ ts) (Memᴰ.head e) = subst (λ (u : Term). 1 ≤ times m (u ∷ ts)) e (omega (arith, times_here m ts))
times_in m (t ∷ ts) (Memᴰ.tail k) = omega (arith, times_more m t ts, times_in m ts k)

not_in : (m : ℕ) (t : Term) (ts : List Term) → (t ≡ Variable m → ⊥) → times m (t ∷ ts) ≡ times m ts
unfolding times
not_in m (Variable n) ts d = times_other m n ts (λ e. d (ap Variable (sym e)))
not_in m (Constant a) ts d = refl
not_in m Open ts d = refl

-- how often a variable stands in an atom; the atoms of a list add up
abbrev pub times_at : ℕ → Atom → ℕ
times_at m a = times m (all_terms (a ∷ []))

pub times_atoms : (m : ℕ) (a : Atom) (xs : List Atom) → times m (all_terms (a ∷ xs)) ≡ times_at m a + times m (all_terms xs)
unfolding all_terms
times_atoms m (IsIn c t) xs = times_cons m t (all_terms xs)
times_atoms m (Joins l t u) xs = omega (arith, times_cons m t (u ∷ all_terms xs), times_cons m u (all_terms xs), times_cons m t (u ∷ []))

pub none_in : (m : ℕ) → times m (all_terms []) ≡ 0
unfolding times all_terms
none_in m = refl

-- a variable in an atom that leads a link to a variable: it is at one of the two ends, and at the far end alone it stands once
pub in_joining : (m : ℕ) (d : Directed) (t : Term) (n : ℕ) → 1 ≤ times_at m (joining d t (Variable n)) → (t ≡ Variable m) ⊎ (n ≡ m)
unfolding all_terms
in_joining m (Forward l) t n h =
    ⊎_elim (λ e. inl e) (λ k. ⊎_elim (λ e. inr e) (λ i. in_none m i) (in_variable m n [] k)) (in_terms m t (Variable n ∷ []) h)
in_joining m (Backward l) t n h =
    ⊎_elim (λ e. inr e) (λ k. ⊎_elim (λ e. inl e) (λ i. in_none m i) (in_terms m t [] k)) (in_variable m n (t ∷ []) h)

pub joining_in : (m : ℕ) (d : Directed) (t : Term) → 1 ≤ times_at m (joining d t (Variable m))
unfolding all_terms
joining_in m (Forward l) t = omega (arith, times_more m t (Variable m ∷ []), times_here m [])
joining_in m (Backward l) t = omega (arith, times_here m (t ∷ []))

pub joining_once : (m : ℕ) (d : Directed) (t : Term) → (t ≡ Variable m → ⊥) → times_at m (joining d t (Variable m)) ≤ 1
unfolding all_terms
joining_once m (Forward l) t n = omega (arith, not_in m t (Variable m ∷ []) n, times_here m [], none_in m)
joining_once m (Backward l) t n = omega (arith, times_here m (t ∷ []), not_in m t [] n, none_in m)
