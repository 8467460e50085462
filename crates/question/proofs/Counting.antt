-- Counts of a variable, and whether an atom or a number stands in a list, in the words of std.
use Rattle.vocabulary.specs.Equality.{atom_eq, atom_eq_same, term_eq}
use Rattle.std.proofs.Common.{◌≡◌, ℕ, ◌+◌, ◌==◌, Bool, cond, ◌||◌, List, [], ◌∷◌, Decides, sym, refl, ap, arith}
use Rattle.std.proofs.lemmas.Bool.Decides.{Decides-eqb, same_from_decides}
use Rattle.std.proofs.lemmas.List.Recursion.{is_count_by, is_sum_by, same_from_clauses}
use Rattle.std.specs.List.{count_by, list_any, sum_by}
use Rattle.theory.proofs.Occurrences.{times_cons}
use Rattle.theory.specs.Tidying.{all_terms, known, stands_in, times}
use Rattle.vocabulary.specs.declared.questions.Atom.TheVariants.{IsIn, Joins}
use Rattle.vocabulary.specs.declared.questions.Atom.{Atom}
use Rattle.vocabulary.specs.declared.questions.Term.TheVariants.{Variable}
use Rattle.vocabulary.specs.declared.questions.Term.{Term}

pub times_count : (n : ℕ) (ts : List Term) → times n ts ≡ count_by (λ t. term_eq (Variable n) t) ts
unfolding times
times_count n =
    is_count_by (times n) (λ t. term_eq (Variable n) t) refl (λ t ts. ap (λ (k : ℕ). cond (term_eq (Variable n) t) k (times n ts)) (omega arith))

times_atom_split : (n : ℕ) (a : Atom) (xs : List Atom) → times n (all_terms (a ∷ xs)) ≡ times n (all_terms (a ∷ [])) + times n (all_terms xs)
unfolding all_terms
times_atom_split n (IsIn c t) xs = times_cons n t (all_terms xs)
times_atom_split n (Joins l t u) xs =
    omega (arith, times_cons n t (u ∷ all_terms xs), times_cons n u (all_terms xs), times_cons n t (u ∷ []))

times_no_atoms : (n : ℕ) → times n (all_terms []) ≡ 0
unfolding times all_terms
times_no_atoms n = refl

pub times_sum : (n : ℕ) (xs : List Atom) → times n (all_terms xs) ≡ sum_by (λ a. times n (all_terms (a ∷ []))) xs
times_sum n = is_sum_by (λ xs. times n (all_terms xs)) (λ a. times n (all_terms (a ∷ []))) (times_no_atoms n) (times_atom_split n)

-- a test by an equality answers the same with its sides turned
turned : {X : Type 0} (eq : X → X → Bool) → ((x y : X) → Decides (eq x y) (x ≡ y)) → (x y : X) → eq x y ≡ eq y x
turned eq same x y = same_from_decides (eq x y) (eq y x) (same x y) (λ e. sym ((same y x).0 e), λ e. (same y x).1 (sym e))

pub stands_any : (a : Atom) (xs : List Atom) → stands_in a xs ≡ list_any (λ b. atom_eq b a) xs
unfolding stands_in
stands_any a =
    same_from_clauses (stands_in a) (list_any (λ b. atom_eq b a)) (λ b r. atom_eq a b || r) refl (λ b bs. refl)
    (λ b bs. ap (λ (v : Bool). v || list_any (λ c. atom_eq c a) bs) (turned atom_eq atom_eq_same b a))

pub known_any : (n : ℕ) (ms : List ℕ) → known n ms ≡ list_any (λ m. m == n) ms
unfolding known
known_any n =
    same_from_clauses (known n) (list_any (λ m. m == n)) (λ m r. n == m || r) refl (λ m ms. refl)
    (λ m ms. ap (λ (v : Bool). v || list_any (λ k. k == n) ms) (turned (λ x y. x == y) Decides-eqb m n))
