-- The rounds of tidying come to rest, and always at the same question.
use Rattle.std.proofs.Common.{◌≡◌, ℕ, zero, suc, ◌<◌, ◌≤◌, Bool, true, false, cond, ◌⊎◌, List, [], ◌∷◌, map, length, sym, refl, ap, ◌∙◌, subst, inl, inr, ⊎_elim, arith}
use Rattle.std.proofs.lemmas.List.{length-map}
use Rattle.theory.proofs.Lone.{NoLone, round_no_lone}
use Rattle.theory.proofs.Tidying.{opened_variable, not_lone}
use Rattle.theory.specs.Questions.{Query}
use Rattle.theory.specs.Tidying.{stands_in, once_each, all_terms, lone, opened, on_terms, round, rounds}
use Rattle.vocabulary.specs.declared.questions.Atom.{Atom}
use Rattle.vocabulary.specs.declared.questions.Atom.TheVariants.{IsIn, Joins}
use Rattle.vocabulary.specs.declared.questions.Term.{Term}
use Rattle.vocabulary.specs.declared.questions.Term.TheVariants.{Variable, Constant, Open}

-- leaving out repeated atoms changes nothing, or leaves fewer
once_less : (before xs : List Atom) → (once_each before xs ≡ xs) ⊎ (length (once_each before xs) < length xs)
unfolding once_each
once_less before [] = inl refl
once_less before (a ∷ rest) = pick (once_less before rest) (once_less (a ∷ before) rest) (stands_in a before)
  where
    shorter : (once_each before rest ≡ rest) ⊎ (length (once_each before rest) < length rest) → length (once_each before rest) < length (a ∷ rest)
    shorter (inl e) = omega (arith, ap length e)
    shorter (inr lt) = omega arith

    pick : (once_each before rest ≡ rest) ⊎ (length (once_each before rest) < length rest) →
        (once_each (a ∷ before) rest ≡ rest) ⊎ (length (once_each (a ∷ before) rest) < length rest) → (b : Bool) →
        (cond b (once_each before rest) (a ∷ once_each (a ∷ before) rest) ≡ a ∷ rest) ⊎ (length (cond b (once_each before rest) (a ∷ once_each (a ∷ before) rest)) < length (a ∷ rest))
    pick p q true = inr (shorter p)
    pick p (inl e) false = inl (ap (λ (ys : List Atom). a ∷ ys) e)
    pick p (inr lt) false = inr (omega arith)

-- opening changes nothing where no variable is lone
opened_same : (test : ℕ → Bool) → ((n : ℕ) → test n ≡ false) → (t : Term) → opened test t ≡ t
opened_same test h (Variable n) = opened_variable test n (h n)
opened_same test h (Constant a) = refl
opened_same test h Open = refl

on_terms_same : (f : Term → Term) → ((t : Term) → f t ≡ t) → (xs : List Atom) → map (on_terms f) xs ≡ xs
on_terms_same f h [] = refl
on_terms_same f h (IsIn c t ∷ rest) = λ i. IsIn c (h t i) ∷ on_terms_same f h rest i
on_terms_same f h (Joins l t u ∷ rest) = λ i. Joins l (h t i) (h u i) ∷ on_terms_same f h rest i

-- a round changes nothing, or leaves fewer atoms
round_less : (q : Query) → NoLone q.head (all_terms q.atoms) → (round q ≡ q) ⊎ (length (round q).atoms < length q.atoms)
unfolding round
round_less q no-lone = ⊎_elim same less (once_less [] q.atoms)
  where
    change : List Atom → Term → Term
    change xs = opened (lone q.head (all_terms xs))

    same : once_each [] q.atoms ≡ q.atoms → (round q ≡ q) ⊎ (length (round q).atoms < length q.atoms)
    same e = inl (λ i. record {
      head = q.head;
      atoms =
          (ap (λ (xs : List Atom). map (on_terms (change xs)) xs) e
          ∙ on_terms_same (change q.atoms) (opened_same (lone q.head (all_terms q.atoms)) (λ n. not_lone q.head (all_terms q.atoms) n (no-lone n))) q.atoms) i;
    })

    less : length (once_each [] q.atoms) < length q.atoms → (round q ≡ q) ⊎ (length (round q).atoms < length q.atoms)
    less lt = inr (subst (λ (n : ℕ). n < length q.atoms) (sym (length-map (once_each [] q.atoms) (on_terms (change (once_each [] q.atoms))))) lt)

round_no_more : (q : Query) → length (round q).atoms ≤ length q.atoms
unfolding round
round_no_more q =
    let kept = once_each [] q.atoms in
    ⊎_elim (λ (e : kept ≡ q.atoms). omega (arith, ap length e, length-map kept (on_terms (opened (lone q.head (all_terms kept))))))
    (λ (lt : length kept < length q.atoms). omega (arith, length-map kept (on_terms (opened (lone q.head (all_terms kept)))))) (once_less [] q.atoms)

-- rounds one after another, and from a question that rests
rounds_first : (k : ℕ) (q : Query) → rounds (suc k) q ≡ rounds k (round q)
unfolding rounds
rounds_first zero q = refl
rounds_first (suc k) q = ap round (rounds_first k q)

rounds_fixed : (k : ℕ) (q : Query) → round q ≡ q → rounds k q ≡ q
unfolding rounds
rounds_fixed zero q e = refl
rounds_fixed (suc k) q e = ap round (rounds_fixed k q e) ∙ e

rounds_swap : (j k : ℕ) (q : Query) → rounds j (rounds k q) ≡ rounds k (rounds j q)
unfolding rounds
rounds_swap zero k q = refl
rounds_swap (suc j) k q = ap round (rounds_swap j k q) ∙ rounds_first k (rounds j q)

stays_fixed : (k : ℕ) (q : Query) → round q ≡ q → round (rounds k q) ≡ rounds k q
stays_fixed k q e = ap round (rounds_fixed k q e) ∙ (e ∙ sym (rounds_fixed k q e))

reaches_fixed : (k : ℕ) (q : Query) → NoLone q.head (all_terms q.atoms) → length q.atoms ≤ k → round (rounds k q) ≡ rounds k q
reaches_fixed zero q no-lone le = ⊎_elim (stays_fixed zero q) (λ lt. absurd (omega arith)) (round_less q no-lone)
reaches_fixed (suc k) q no-lone le =
    ⊎_elim (stays_fixed (suc k) q)
    (λ lt. subst (λ (r : Query). round r ≡ r) (sym (rounds_first k q)) (reaches_fixed k (round q) (round_no_lone q) (omega arith)))
    (round_less q no-lone)

-- after as many rounds as there are atoms and one more, nothing changes
pub fixed : (q : Query) → round (rounds (suc (length q.atoms)) q) ≡ rounds (suc (length q.atoms)) q
fixed q =
    let n = length q.atoms in
    subst (λ (r : Query). round r ≡ r) (sym (rounds_first n q)) (reaches_fixed n (round q) (round_no_lone q) (round_no_more q))

-- and wherever nothing changes any more, it is that same question
pub only_fixed : (q : Query) (k : ℕ) → round (rounds k q) ≡ rounds k q → rounds k q ≡ rounds (suc (length q.atoms)) q
only_fixed q k e =
    let j = suc (length q.atoms) in
    sym (rounds_fixed j (rounds k q) e) ∙ (rounds_swap j k q ∙ rounds_fixed k (rounds j q) (fixed q))
