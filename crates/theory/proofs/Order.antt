-- The numbers that tidying gives are below the count of the variables.
use Rattle.std.proofs.Common.{◌≡◌, ℕ, suc, ◌<◌, ◌≤◌, true, false, eqb, List, [], ◌∷◌, ◌++◌, length, sym, refl, subst, ⊎_elim, arith}
use Rattle.std.proofs.lemmas.Bool.{false≢true, eq-eqb, or_cases, or_left, or_right, cond_both, both_ways}
use Rattle.theory.proofs.Occurrences.{in_terms, in_none}
use Rattle.theory.specs.Tidying.{times, known, firsts, place}
use Rattle.vocabulary.specs.declared.questions.Term.{Term}
use Rattle.vocabulary.specs.declared.questions.Term.TheVariants.{Variable, Constant, Open}

-- every variable that stands among terms is in the order of their variables
known_more : (n : ℕ) (ms ks : List ℕ) → known n ms ≡ true → known n (ms ++ ks) ≡ true
unfolding known
known_more n [] ks h = absurd (false≢true h)
known_more n (m ∷ ms) ks h =
    ⊎_elim (λ e. or_left (eqb n m) (known n (ms ++ ks)) e) (λ k. or_right (eqb n m) (known n (ms ++ ks)) (known_more n ms ks k)) (or_cases (eqb n m) (known n ms) h)

known_last : (n : ℕ) (ms : List ℕ) → known n (ms ++ (n ∷ [])) ≡ true
unfolding known
known_last n [] = or_left (eqb n n) false (eq-eqb n n refl)
known_last n (m ∷ ms) = or_right (eqb n m) (known n (ms ++ (n ∷ []))) (known_last n ms)

pub firsts_keep : (n : ℕ) (ts : List Term) (seen : List ℕ) → known n seen ≡ true → known n (firsts ts seen) ≡ true
unfolding firsts
firsts_keep n [] seen h = h
firsts_keep n (Variable m ∷ ts) seen h =
    cond_both (known m seen) (firsts ts seen) (firsts ts (seen ++ (m ∷ []))) (λ (ms : List ℕ). known n ms ≡ true)
    (λ e. firsts_keep n ts seen h) (λ e. firsts_keep n ts (seen ++ (m ∷ [])) (known_more n seen (m ∷ []) h))
firsts_keep n (Constant a ∷ ts) seen h = firsts_keep n ts seen h
firsts_keep n (Open ∷ ts) seen h = firsts_keep n ts seen h

pub firsts_here : (n : ℕ) (ts : List Term) (seen : List ℕ) → known n (firsts (Variable n ∷ ts) seen) ≡ true
unfolding firsts
firsts_here n ts seen =
    cond_both (known n seen) (firsts ts seen) (firsts ts (seen ++ (n ∷ []))) (λ (ms : List ℕ). known n ms ≡ true)
    (λ e. firsts_keep n ts seen e) (λ e. firsts_keep n ts (seen ++ (n ∷ [])) (known_last n seen))

in_order : (n : ℕ) (ts : List Term) (seen : List ℕ) → 1 ≤ times n ts → known n (firsts ts seen) ≡ true
unfolding firsts times
in_order n [] seen h = in_none n h
in_order n (Variable m ∷ ts) seen h =
    ⊎_elim (λ (e : Variable m ≡ Variable n). subst (λ (t : Term). known n (firsts (t ∷ ts) seen) ≡ true) (sym e) (firsts_here n ts seen))
    (λ (k : 1 ≤ times n ts). cond_both (known m seen) (firsts ts seen) (firsts ts (seen ++ (m ∷ []))) (λ (ms : List ℕ). known n ms ≡ true)
    (λ e. in_order n ts seen k) (λ e. in_order n ts (seen ++ (m ∷ [])) k))
    (in_terms n (Variable m) ts h)
in_order n (Constant a ∷ ts) seen h = in_order n ts seen h
in_order n (Open ∷ ts) seen h = in_order n ts seen h

-- the place of what is in the order is below its length
place_below : (n : ℕ) (ms : List ℕ) → known n ms ≡ true → place n ms < length ms
unfolding known place
place_below n [] h = absurd (false≢true h)
place_below n (m ∷ ms) h =
    cond_both (eqb n m) 0 (suc (place n ms)) (λ k. k < length (m ∷ ms)) (λ e. omega arith)
    (λ e. ⊎_elim (λ (p : eqb n m ≡ true). absurd (both_ways (eqb n m) e p)) (λ (k : known n ms ≡ true). omega (arith, place_below n ms k)) (or_cases (eqb n m) (known n ms) h))

pub numbered_below : (n : ℕ) (ts : List Term) → 1 ≤ times n ts → place n (firsts ts []) < length (firsts ts [])
numbered_below n ts h = place_below n (firsts ts []) (in_order n ts [] h)
