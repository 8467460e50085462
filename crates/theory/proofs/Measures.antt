-- How many steps of derivation the atoms of a question take.
use Rattle.std.proofs.Common.{ℕ, ◌+◌, ◌≤◌, List, [], ◌∷◌, map, arith}
use Rattle.std.proofs.lemmas.Bool.{cond_both}
use Rattle.theory.proofs.Derivations.{DerivedIn, ground_shape}
use Rattle.theory.proofs.Numbering.{Thing, name}
use Rattle.theory.proofs.Terms.{Respects, holds_map}
use Rattle.theory.proofs.Tidying.{tidy_said}
use Rattle.theory.specs.Lists.{Matched}
use Rattle.theory.specs.Questions.{Query, Holds, Serves}
use Rattle.theory.specs.Tidying.{stands_in, once_each, on_terms, tidy}
use Rattle.vocabulary.specs.declared.facts.Fact.{Fact}
use Rattle.vocabulary.specs.declared.questions.Atom.{Atom}
use Rattle.vocabulary.specs.declared.questions.Term.{Term}
use Rattle.vocabulary.specs.declared.rules.Rule.{Rule}

-- each member has the property at a number of its own, and the numbers add up to n at most
abbrev pub Summed : {A : Type 0} → (ℕ → A → Type 0) → ℕ → List A → Type 0
Summed P n [] = Unit {0}
Summed P n (a ∷ rest) = (k : ℕ) × (m : ℕ) × (k + m ≤ n) × P k a × Summed P m rest

-- it lasts under a greater sum, a change of the members, a weaker property, and the leaving out of repeated atoms
summed_wide : {A : Type 0} (P : ℕ → A → Type 0) (m n : ℕ) → m ≤ n → (xs : List A) → Summed P m xs → Summed P n xs
summed_wide P m n le [] h = tt
summed_wide P m n le (a ∷ rest) h = (h.0, h.1, omega (arith, h.2), h.3, h.4)

summed_map : {A B : Type 0} (P : ℕ → A → Type 0) (Q : ℕ → B → Type 0) (g : A → B) → ((k : ℕ) (a : A) → P k a → Q k (g a)) →
    (n : ℕ) (xs : List A) → Summed P n xs → Summed Q n (map g xs)
summed_map P Q g f n [] h = tt
summed_map P Q g f n (a ∷ rest) h = (h.0, h.1, h.2, f h.0 a h.3, summed_map P Q g f h.1 rest h.4)

pub summed_weaker : {A : Type 0} (P Q : ℕ → A → Type 0) → ((k : ℕ) (a : A) → P k a → Q k a) → (n : ℕ) (xs : List A) → Summed P n xs → Summed Q n xs
summed_weaker P Q f n [] h = tt
summed_weaker P Q f n (a ∷ rest) h = (h.0, h.1, h.2, f h.0 a h.3, summed_weaker P Q f h.1 rest h.4)

summed_once : (P : ℕ → Atom → Type 0) (before : List Atom) (n : ℕ) (xs : List Atom) → Summed P n xs → Summed P n (once_each before xs)
unfolding once_each
summed_once P before n [] h = tt
summed_once P before n (a ∷ rest) h =
    cond_both (stands_in a before) (once_each before rest) (a ∷ once_each (a ∷ before) rest) (Summed P n)
    (λ e. summed_wide P h.1 n (omega (arith, h.2)) (once_each before rest) (summed_once P before h.1 rest h.4))
    (λ e. (h.0, h.1, h.2, h.3, summed_once P (a ∷ before) h.1 rest h.4))

module _ (rules : List Rule) (facts : List Fact) where
  -- the atom holds by a derivation of k steps at most
  abbrev pub HoldsIn : (ℕ → Thing) → ℕ → Atom → Type 0
  HoldsIn v k a = Holds (ground_shape (DerivedIn rules facts k)) v a

  -- the head is the row, and the atoms hold by derivations of n steps in all
  abbrev pub TrueIn : ℕ → Query → List Thing → Type 0
  TrueIn n q row = (v : ℕ → Thing) × Matched (Serves name v) q.head row × Summed (HoldsIn v) n q.atoms

  -- atoms go on holding, in as many steps, under a change that respects what serves
  pub holds_in_map : (v w : ℕ → Thing) (f : Term → Term) → Respects name v w f →
      (n : ℕ) (xs : List Atom) → Summed (HoldsIn v) n xs → Summed (HoldsIn w) n (map (on_terms f) xs)
  holds_in_map v w f g n xs h = summed_map (HoldsIn v) (HoldsIn w) (on_terms f) (λ k a. holds_map (ground_shape (DerivedIn rules facts k)) v w f g a) n xs h

  -- tidying keeps the number of steps
  pub tidy_true_in : (n : ℕ) (q : Query) (row : List Thing) → TrueIn n q row → TrueIn n (tidy q) row
  tidy_true_in n = tidy_said name (λ v. Summed (HoldsIn v) n) (λ v w f serves. holds_in_map v w f serves n) (λ v. summed_once (HoldsIn v) [] n)
