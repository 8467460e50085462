-- After tidying no variable is lone.
use Rattle.std.proofs.Common.{◌≡◌, ℕ, suc, Bool, true, false, cond, eqb, ◌⊎◌, List, [], ◌∷◌, ◌++◌, map, length, sym, refl, ap, ◌∙◌, subst, inl, inr, arith}
use Rattle.std.proofs.lemmas.Bool.{true≢false, eq-eqb, ne_eqb, and_from, cond_both, cond-true, cond-false, cases_eq}
use Rattle.theory.proofs.Occurrences.{times_other}
use Rattle.theory.proofs.Terms.{all_terms_map}
use Rattle.theory.proofs.Tidying.{variable_at, variable_at_place}
use Rattle.theory.specs.Questions.{Query}
use Rattle.theory.specs.Tidying.{once_each, all_terms, times, lone, opened, round, rounds, firsts, place, numbered, tidy}
use Rattle.vocabulary.specs.declared.questions.Term.{Term}
use Rattle.vocabulary.specs.declared.questions.Term.TheVariants.{Variable, Constant, Open}

-- no variable stands outside the head and once
abbrev pub NoLone : List Term → List Term → Type 0
NoLone head body = (n : ℕ) → times n head ≡ 0 → times n body ≡ 1 → ⊥

-- opening takes away the variables that pass the test, and leaves the others as often as they stood
times_gone : (test : ℕ → Bool) (n : ℕ) → test n ≡ true → (ts : List Term) → times n (map (opened test) ts) ≡ 0
unfolding times
times_gone test n e [] = refl
times_gone test n e (Variable m ∷ ts) =
    cond_both (test m) Open (Variable m) (λ (t : Term). times n (t ∷ map (opened test) ts) ≡ 0)
    (λ p. times_gone test n e ts)
    (λ p. times_other n m (map (opened test) ts) (λ q. true≢false (sym e ∙ (ap test q ∙ p))) ∙ times_gone test n e ts)
times_gone test n e (Constant a ∷ ts) = times_gone test n e ts
times_gone test n e (Open ∷ ts) = times_gone test n e ts

times_kept : (test : ℕ → Bool) (n : ℕ) → test n ≡ false → (ts : List Term) → times n (map (opened test) ts) ≡ times n ts
unfolding times
times_kept test n e [] = refl
times_kept test n e (Variable m ∷ ts) =
    cond_both (test m) Open (Variable m) (λ (t : Term). times n (t ∷ map (opened test) ts) ≡ times n (Variable m ∷ ts))
    (λ p. times_kept test n e ts ∙ sym (times_other n m ts (λ q. true≢false (sym p ∙ (ap test (sym q) ∙ e)))))
    (λ p. ap (λ (k : ℕ). cond (eqb n m) (suc k) k) (times_kept test n e ts))
times_kept test n e (Constant a ∷ ts) = times_kept test n e ts
times_kept test n e (Open ∷ ts) = times_kept test n e ts

opened_no_lone : (head body : List Term) → NoLone head (map (opened (lone head body)) body)
opened_no_lone head body n p q = pick (lone head body n) refl
  where
    pick : (b : Bool) → lone head body n ≡ b → ⊥
    pick true e = omega (arith, times_gone (lone head body) n e body)
    pick false e =
        true≢false (sym (and_from (eqb (times n head) 0) (eqb (times n body) 1) (eq-eqb (times n head) 0 p)
        (eq-eqb (times n body) 1 (sym (times_kept (lone head body) n e body) ∙ q))) ∙ e)

-- after a round, and after tidying, no variable is lone
pub round_no_lone : (q : Query) → NoLone (round q).head (all_terms (round q).atoms)
unfolding round
round_no_lone q =
    let kept = once_each [] q.atoms in
    subst (λ (ts : List Term). NoLone q.head ts) (sym (all_terms_map (opened (lone q.head (all_terms kept))) kept)) (opened_no_lone q.head (all_terms kept))

-- a number stands for no variable, or for one, and as often
Counts : List ℕ → ℕ → Type 0
Counts order k = ((ts : List Term) → times k (map (numbered order) ts) ≡ 0) ⊎ ((n : ℕ) × ((ts : List Term) → times k (map (numbered order) ts) ≡ times n ts))

place_is : (order : List ℕ) (k m : ℕ) → k ≡ place m order → variable_at order k ≡ m
place_is order k m p = ap (variable_at order) p ∙ variable_at_place m order

never_placed : (order : List ℕ) (k : ℕ) → (place (variable_at order k) order ≡ k → ⊥) → (ts : List Term) → times k (map (numbered order) ts) ≡ 0
unfolding times
never_placed order k d [] = refl
never_placed order k d (Variable m ∷ ts) =
    times_other k (place m order) (map (numbered order) ts) (λ q. d (ap (λ (j : ℕ). place j order) (place_is order k m q) ∙ sym q)) ∙ never_placed order k d ts
never_placed order k d (Constant a ∷ ts) = never_placed order k d ts
never_placed order k d (Open ∷ ts) = never_placed order k d ts

once_placed : (order : List ℕ) (k : ℕ) → place (variable_at order k) order ≡ k → (ts : List Term) → times k (map (numbered order) ts) ≡ times (variable_at order k) ts
unfolding times
once_placed order k p [] = refl
once_placed order k p (Variable m ∷ ts) = pick (once_placed order k p ts) (cases_eq (variable_at order k) m)
  where
    n : ℕ
    n = variable_at order k

    later : ℕ
    later = times k (map (numbered order) ts)

    pick : times k (map (numbered order) ts) ≡ times n ts → (n ≡ m) ⊎ (n ≡ m → ⊥) →
        cond (eqb k (place m order)) (suc (times k (map (numbered order) ts))) (times k (map (numbered order) ts)) ≡ cond (eqb n m) (suc (times n ts)) (times n ts)
    pick rec (inl e) = cond-true (eqb k (place m order)) (suc later) later (eq-eqb k (place m order) (sym p ∙ ap (λ (j : ℕ). place j order) e))
        ∙ (ap suc rec ∙ sym (cond-true (eqb n m) (suc (times n ts)) (times n ts) (eq-eqb n m e)))
    pick rec (inr d) = cond-false (eqb k (place m order)) (suc later) later (ne_eqb k (place m order) (λ q. d (place_is order k m q)))
        ∙ (rec ∙ sym (cond-false (eqb n m) (suc (times n ts)) (times n ts) (ne_eqb n m d)))
once_placed order k p (Constant a ∷ ts) = once_placed order k p ts
once_placed order k p (Open ∷ ts) = once_placed order k p ts

counts : (order : List ℕ) (k : ℕ) → Counts order k
unfolding Counts
counts order k = pick (cases_eq (place (variable_at order k) order) k)
  where
    pick : (place (variable_at order k) order ≡ k) ⊎ (place (variable_at order k) order ≡ k → ⊥) → Counts order k
    pick (inl p) = inr (variable_at order k, once_placed order k p)
    pick (inr d) = inl (never_placed order k d)

numbered_no_lone : (order : List ℕ) (head body : List Term) → NoLone head body → NoLone (map (numbered order) head) (map (numbered order) body)
unfolding Counts
numbered_no_lone order head body no-lone k p q = pick (counts order k)
  where
    pick : Counts order k → ⊥
    pick (inl z) = omega (arith, z body)
    pick (inr (n, c)) = no-lone n (sym (c head) ∙ p) (sym (c body) ∙ q)

pub tidy_no_lone : (q : Query) → NoLone (tidy q).head (all_terms (tidy q).atoms)
unfolding tidy rounds
tidy_no_lone q =
    let r = rounds (suc (length q.atoms)) q in
    let order = firsts (r.head ++ all_terms r.atoms) [] in
    subst (λ (ts : List Term). NoLone (map (numbered order) r.head) ts) (sym (all_terms_map (numbered order) r.atoms))
    (numbered_no_lone order r.head (all_terms r.atoms) (round_no_lone (rounds (length q.atoms) q)))
