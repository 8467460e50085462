-- Every rewriting of a safe question is safe.
use Rattle.vocabulary.specs.Equality.{atom_eq, atom_eq_same}
use Rattle.std.proofs.Common.{◌≡◌, ℕ, zero, suc, Bool, true, ◌⊎◌, List, [], ◌∷◌, ◌++◌, map, length, sym, refl, ap, ◌∙◌, subst, inl, inr, ⊎_elim, arith}
use Rattle.std.proofs.ByRecursion.{All-map, All-weaker}
use Rattle.std.proofs.lemmas.Bool.{false≢true, or_cases, cond_both}
use Rattle.std.specs.List.{AllByRecursion}
use Rattle.theory.proofs.Lists.{each, every}
use Rattle.theory.proofs.Occurrences.{times_in}
use Rattle.theory.proofs.Terms.{all_terms_map}
use Rattle.theory.proofs.Tidying.{opened_variable, lone_not_head}
use Rattle.theory.proofs.Unifiers.{NotOpen, Meets, proper, unify_equal, apply_variable, apply_constant, apply_filled, one_meets, first_meets, second_meets}
use Rattle.theory.specs.Questions.{Query}
use Rattle.theory.specs.Rewritings.{about, joining, Becomes, narrower, starts, ends, links, turned, unify, apply, filled, unify_second, Merges, classes, pairs, Replaced, here, there, Without, first, later, Merged, merged, beyond, OneStep, replaces, merges, Rewriting, itself, onward}
use Rattle.theory.specs.Safety.{Covered, Safe}
use Rattle.theory.specs.Tidying.{stands_in, once_each, all_terms, lone, opened, on_terms, round, rounds, firsts, numbered, tidy}
use Rattle.vocabulary.specs.declared.basic.Basic.{Basic}
use Rattle.vocabulary.specs.declared.basic.Basic.TheVariants.{Named, Start}
use Rattle.vocabulary.specs.declared.basic.Directed.{Directed}
use Rattle.vocabulary.specs.declared.basic.Directed.TheVariants.{Forward, Backward}
use Rattle.vocabulary.specs.declared.numbers.Name.{Name}
use Rattle.vocabulary.specs.declared.questions.Atom.{Atom}
use Rattle.vocabulary.specs.declared.questions.Atom.TheVariants.{IsIn, Joins}
use Rattle.vocabulary.specs.declared.questions.Term.{Term}
use Rattle.vocabulary.specs.declared.questions.Term.TheVariants.{Variable, Constant, Open}
use Rattle.vocabulary.specs.declared.rules.Rule.{Rule}
use mathlib.Core.List.Memᴰ
use mathlib.Core.List.{Memᴰ}

-- a term of an atom, and of the atoms
abbrev Of : Term → Atom → Type 0
Of t a = Memᴰ t (all_terms (a ∷ []))

abbrev Among : Term → List Atom → Type 0
Among t xs = Memᴰ t (all_terms xs)

among_here : {t : Term} (a : Atom) (xs : List Atom) → Of t a → Among t (a ∷ xs)
unfolding all_terms
among_here (IsIn c u) xs (Memᴰ.head e) = Memᴰ.head e
among_here (IsIn c u) xs (Memᴰ.tail m) = absurd (Memᴰ.not-nil m)
among_here (Joins l u v) xs (Memᴰ.head e) = Memᴰ.head e
among_here (Joins l u v) xs (Memᴰ.tail m) = Memᴰ.tail (Memᴰ.head (Memᴰ.eq_of_singleton m))

among_there : {t : Term} (a : Atom) (xs : List Atom) → Among t xs → Among t (a ∷ xs)
unfolding all_terms
among_there (IsIn c u) xs m = Memᴰ.tail m
among_there (Joins l u v) xs m = Memᴰ.tail (Memᴰ.tail m)

among_cases : {t : Term} (a : Atom) (xs : List Atom) → Among t (a ∷ xs) → Of t a ⊎ Among t xs
unfolding all_terms
among_cases (IsIn c u) xs (Memᴰ.head e) = inl (Memᴰ.head e)
among_cases (IsIn c u) xs (Memᴰ.tail m) = inr m
among_cases (Joins l u v) xs (Memᴰ.head e) = inl (Memᴰ.head e)
among_cases (Joins l u v) xs (Memᴰ.tail (Memᴰ.head e)) = inl (Memᴰ.tail (Memᴰ.head e))
among_cases (Joins l u v) xs (Memᴰ.tail (Memᴰ.tail m)) = inr m

among_none : {t : Term} {A : Type 0} → Among t [] → A
unfolding all_terms
among_none m = absurd (Memᴰ.not-nil m)

-- what an atom becomes by a rule has the atom's variables
of_about : (b : Basic) (t : Term) → Of t (about b t)
unfolding all_terms
of_about (Named c) t = Memᴰ.head refl
of_about (Start (Forward l)) t = Memᴰ.head refl
of_about (Start (Backward l)) t = Memᴰ.tail (Memᴰ.head refl)

of_joining : (d : Directed) (t u : Term) → Of t (joining d t u) × Of u (joining d t u)
unfolding all_terms
of_joining (Forward l) t u = (Memᴰ.head refl, Memᴰ.tail (Memᴰ.head refl))
of_joining (Backward l) t u = (Memᴰ.tail (Memᴰ.head refl), Memᴰ.head refl)

becomes_of : (rules : List Rule) (n : ℕ) {a b : Atom} → Becomes rules a b → Of (Variable n) a → Of (Variable n) b
unfolding all_terms
becomes_of rules n (narrower {b = b} {t = t} m) k = Memᴰ.cast (Memᴰ.eq_of_singleton k) (of_about b t)
becomes_of rules n (starts {b = b} {t = t} m) k =
    ⊎_elim (λ e. Memᴰ.cast e (of_about b t)) (λ i. let e = Memᴰ.eq_of_singleton i in absurd (let z : ◌≡◌ {A = ℕ} 0 1 = cc in omega arith)) (Memᴰ.cases_cons k)
becomes_of rules n (ends {b = b} {t = t} m) k =
    ⊎_elim (λ e. absurd (let z : ◌≡◌ {A = ℕ} 0 1 = cc in omega arith)) (λ i. Memᴰ.cast (Memᴰ.eq_of_singleton i) (of_about b t)) (Memᴰ.cases_cons k)
becomes_of rules n (links {d = d} {t = t} {u = u} m) k =
    ⊎_elim (λ e. Memᴰ.cast e (of_joining d t u).0) (λ i. Memᴰ.cast (Memᴰ.eq_of_singleton i) (of_joining d t u).1) (Memᴰ.cases_cons k)
becomes_of rules n (turned {d = d} {t = t} {u = u} m) k =
    ⊎_elim (λ e. Memᴰ.cast e (of_joining d u t).1) (λ i. Memᴰ.cast (Memᴰ.eq_of_singleton i) (of_joining d u t).0) (Memᴰ.cases_cons k)

replaced_among : (rules : List Rule) (n : ℕ) {xs ys : List Atom} → Replaced (Becomes rules) xs ys → Among (Variable n) xs → Among (Variable n) ys
replaced_among rules n (here {a = a} {b = b} {rest = rest} r) m =
    ⊎_elim (λ k. among_here b rest (becomes_of rules n r k)) (λ k. among_there b rest k) (among_cases a rest m)
replaced_among rules n (there {a = a} {rest = rest} {others = others} r) m =
    ⊎_elim (λ k. among_here a others k) (λ k. among_there a others (replaced_among rules n r k)) (among_cases a rest m)

-- what becomes of a term in merging is open or what becomes of a term that is left
abbrev Kept : (Term → Term) → Term → List Term → Type 0
Kept f t us = (u : Term) × Memᴰ u us × Meets f t u

merges_kept : {a b c : Atom} {f : Term → Term} → Merges a b c f → {t : Term} → Of t a ⊎ Of t b → Kept f t (all_terms (c ∷ []))
unfolding all_terms
merges_kept (classes {t = t} {t' = t'} n) {t = w} m =
    let k = unify t t' in
    let r = filled t t' in
    let i = unify_equal t t' n in
    ⊎_elim
    (λ h. (r, Memᴰ.head refl, subst (λ (z : Term). Meets (apply k) z r) (sym (Memᴰ.eq_of_singleton h)) (one_meets k t r i.0)))
    (λ h. (r, Memᴰ.head refl, subst (λ (z : Term). Meets (apply k) z r) (sym (Memᴰ.eq_of_singleton h)) (one_meets k t' r i.1))) m
merges_kept (pairs {t = t} {t' = t'} {u = u} {u' = u'} n m) {t = w} p =
    let k = unify t t' in
    let j = unify_second t t' u u' in
    let f : Term → Term = λ z. apply j (apply k z) in
    let r = filled t t' in
    let q = filled u u' in
    let i = unify_equal t t' n in
    let l = unify_equal (apply k u) (apply k u') m in
    let e = apply_filled k (proper t t') u u' in
    let g = filled (apply k u) (apply k u') in
    let one : (z : Term) → Meets f z r → w ≡ z → Kept f w (r ∷ (q ∷ [])) = λ z h o. (r, Memᴰ.head refl, subst (λ (y : Term). Meets f y r) (sym o) h) in
    let two : (z : Term) → Meets f z q → w ≡ z → Kept f w (r ∷ (q ∷ [])) = λ z h o. (q, Memᴰ.tail (Memᴰ.head refl), subst (λ (y : Term). Meets f y q) (sym o) h) in
    ⊎_elim
    (λ h. ⊎_elim (one t (first_meets k j t r i.0)) (λ o. two u (second_meets k j u q g e l.0) (Memᴰ.eq_of_singleton o)) (Memᴰ.cases_cons h))
    (λ h. ⊎_elim (one t' (first_meets k j t' r i.1)) (λ o. two u' (second_meets k j u' q g e l.1) (Memᴰ.eq_of_singleton o)) (Memᴰ.cases_cons h)) p

without_cases : {t : Term} {b : Atom} {xs ys : List Atom} → Without b xs ys → Among t xs → Of t b ⊎ Among t ys
without_cases {b = b} (first {rest = rest}) m = among_cases b rest m
without_cases (later {a = a} {rest = rest} {others = others} k) m =
    ⊎_elim (λ h. inr (among_here a others h)) (λ h. ⊎_elim (λ i. inl i) (λ i. inr (among_there a others i)) (without_cases k h)) (among_cases a rest m)

kept_here : (f : Term → Term) {t : Term} (a : Atom) (xs : List Atom) → Kept f t (all_terms (a ∷ [])) → Kept f t (all_terms (a ∷ xs))
kept_here f a xs (u, m, h) = (u, among_here a xs m, h)

kept_there : (f : Term → Term) {t : Term} (a : Atom) (xs : List Atom) → Kept f t (all_terms xs) → Kept f t (all_terms (a ∷ xs))
kept_there f a xs (u, m, h) = (u, among_there a xs m, h)

merged_kept : {f : Term → Term} {xs ys : List Atom} → Merged f xs ys → {t : Term} → Among t xs → Kept f t (all_terms ys)
merged_kept {f = f} (merged {a = a} {b = b} {c = c} {rest = rest} {others = others} m k) {t} h =
    ⊎_elim (λ i. kept_here f c others (merges_kept m (inl i)))
    (λ i. ⊎_elim (λ j. kept_here f c others (merges_kept m (inr j))) (λ j. (t, among_there c others j, inr refl)) (without_cases k i))
    (among_cases a rest h)
merged_kept {f = f} (beyond {a = a} {rest = rest} {others = others} k) {t} h =
    ⊎_elim (λ i. (t, among_here a others i, inr refl)) (λ i. kept_there f a others (merged_kept k i)) (among_cases a rest h)

-- a change under which no variable becomes open and names stay, as in merging
record Plain (f : Term → Term) : Type 0 where
  variables : (n : ℕ) → NotOpen (f (Variable n))
  names : (a : Name) → f (Constant a) ≡ Constant a

merges_plain : {a b c : Atom} {f : Term → Term} → Merges a b c f → Plain f
merges_plain (classes {t = t} {t' = t'} n) = record { variables = apply_variable (unify t t') (proper t t'); names = apply_constant (unify t t') }
merges_plain (pairs {t = t} {t' = t'} {u = u} {u' = u'} n m) = record {
  variables = λ i. twice (apply (unify t t') (Variable i)) (apply_variable (unify t t') (proper t t') i);
  names = λ a. ap (apply (unify_second t t' u u')) (apply_constant (unify t t') a) ∙ apply_constant (unify_second t t' u u') a;
}
  where
    twice : (w : Term) → NotOpen w → NotOpen (apply (unify_second t t' u u') w)
    twice (Variable i) o = apply_variable (unify_second t t' u u') (proper (apply (unify t t') u) (apply (unify t t') u')) i
    twice (Constant a) o = subst NotOpen (sym (apply_constant (unify_second t t' u u') a)) tt
    twice Open o = absurd o

merged_plain : {f : Term → Term} {xs ys : List Atom} → Merged f xs ys → Plain f
merged_plain (merged m k) = merges_plain m
merged_plain (beyond k) = merged_plain k

-- a term that is not open and stands in the atoms is covered
covered_from : (xs : List Atom) (t : Term) → NotOpen t → Among t xs → Covered xs t
covered_from xs (Variable n) o m = m
covered_from xs (Constant a) o m = tt
covered_from xs Open o m = absurd o

-- what was covered is so after a change that leaves every variable's term among the atoms, and after one step
changed_covered : (f : Term → Term) → Plain f → (xs ys : List Atom) → ((n : ℕ) → Among (Variable n) xs → Kept f (Variable n) (all_terms ys)) →
    (t : Term) → Covered xs t → Covered (map (on_terms f) ys) (f t)
changed_covered f p xs ys keeps (Variable n) m = covered_from (map (on_terms f) ys) (f (Variable n)) (p.variables n) (there (keeps n m))
  where
    there : Kept f (Variable n) (all_terms ys) → Among (f (Variable n)) (map (on_terms f) ys)
    there (u, k, inl e) = absurd (subst NotOpen e (p.variables n))
    there (u, k, inr e) = subst (Memᴰ (f (Variable n))) (sym (all_terms_map f ys)) (Memᴰ.cast e (Memᴰ.map f k))
changed_covered f p xs ys keeps (Constant a) m = subst (Covered (map (on_terms f) ys)) (sym (p.names a)) tt
changed_covered f p xs ys keeps Open m = absurd m

all_changed : (f : Term → Term) → Plain f → (xs ys : List Atom) → ((n : ℕ) → Among (Variable n) xs → Kept f (Variable n) (all_terms ys)) →
    (ts : List Term) → AllByRecursion (Covered xs) ts → AllByRecursion (Covered (map (on_terms f) ys)) (map f ts)
all_changed f p xs ys keeps ts h =
    let new = Covered (map (on_terms f) ys) in
    All-map new f ts (All-weaker (Covered xs) (λ t. new (f t)) (changed_covered f p xs ys keeps) ts h)

covered_wider : (xs ys : List Atom) → ((n : ℕ) → Among (Variable n) xs → Among (Variable n) ys) → (t : Term) → Covered xs t → Covered ys t
covered_wider xs ys f (Variable n) m = f n m
covered_wider xs ys f (Constant a) m = tt
covered_wider xs ys f Open m = absurd m

step_safe : (rules : List Rule) {p r : Query} → OneStep rules p r → Safe p → Safe r
step_safe rules (replaces {p = p} {others = others} k) h = All-weaker (Covered p.atoms) (Covered others) (covered_wider p.atoms others (λ n. replaced_among rules n k)) p.head h
step_safe rules (merges {p = p} {others = others} {f = f} k) h = all_changed f (merged_plain k) p.atoms others (λ n m. merged_kept k m) p.head h

-- tidying keeps a question safe
stood : {t : Term} (a : Atom) (before : List Atom) → stands_in a before ≡ true → Of t a → Among t before
unfolding stands_in
stood a [] e m = absurd (false≢true e)
stood {t} a (b ∷ bs) e m =
    ⊎_elim (λ h. among_here b bs (subst (Of t) ((atom_eq_same a b).0 h) m)) (λ h. among_there b bs (stood a bs h m)) (or_cases (atom_eq a b) (stands_in a bs) e)

once_among : {t : Term} (before xs : List Atom) → Among t xs → Among t before ⊎ Among t (once_each before xs)
unfolding once_each
once_among before [] m = inr m
once_among {t} before (a ∷ rest) m =
    cond_both (stands_in a before) (once_each before rest) (a ∷ once_each (a ∷ before) rest) (λ (ys : List Atom). Among t before ⊎ Among t ys)
    (λ e. ⊎_elim (λ h. inl (stood a before e h)) (λ h. once_among before rest h) (among_cases a rest m))
    (λ e. ⊎_elim (λ h. inr (among_here a (once_each (a ∷ before) rest) h))
    (λ h. ⊎_elim
    (λ i. ⊎_elim (λ j. inr (among_here a (once_each (a ∷ before) rest) j)) (λ j. inl j) (among_cases a before i))
    (λ i. inr (among_there a (once_each (a ∷ before) rest) i))
    (once_among (a ∷ before) rest h))
    (among_cases a rest m))

round_safe : (q : Query) → Safe q → Safe (round q)
unfolding round
round_safe q h = every (Covered new) q.head (λ t m. one t m (each (Covered q.atoms) h m))
  where
    kept : List Atom
    kept = once_each [] q.atoms

    test : ℕ → Bool
    test = lone q.head (all_terms kept)

    new : List Atom
    new = map (on_terms (opened (lone q.head (all_terms (once_each [] q.atoms))))) (once_each [] q.atoms)

    one : (t : Term) → Memᴰ t q.head → Covered q.atoms t → Covered new t
    one (Variable n) m k =
        let stays = opened_variable test n (lone_not_head q.head (all_terms kept) n (times_in n q.head m)) in
        let among : Among (Variable n) kept = ⊎_elim (λ i. among_none i) (λ i. i) (once_among [] q.atoms k) in
        subst (Memᴰ (Variable n)) (sym (all_terms_map (opened test) kept)) (Memᴰ.cast (sym stays) (Memᴰ.map (opened test) among))
    one (Constant a) m k = tt
    one Open m k = absurd k

rounds_safe : (n : ℕ) (q : Query) → Safe q → Safe (rounds n q)
unfolding rounds
rounds_safe zero q h = h
rounds_safe (suc n) q h = round_safe (rounds n q) (rounds_safe n q h)

numbered_plain : (order : List ℕ) → Plain (numbered order)
numbered_plain order = record { variables = λ n. tt; names = λ a. refl }

tidy_safe : (q : Query) → Safe q → Safe (tidy q)
unfolding tidy
tidy_safe q h =
    let r = rounds (suc (length q.atoms)) q in
    let order = firsts (r.head ++ all_terms r.atoms) [] in
    all_changed (numbered order) (numbered_plain order) r.atoms r.atoms (λ n m. (Variable n, m, inr refl)) r.head (rounds_safe (suc (length q.atoms)) q h)

-- every rewriting of a safe question is safe
pub rewriting_safe : (rules : List Rule) (q : Query) → Safe q → {r : Query} → Rewriting rules q r → Safe r
rewriting_safe rules q h itself = tidy_safe q h
rewriting_safe rules q h (onward {r = r} w k) = tidy_safe r (step_safe rules k (rewriting_safe rules q h w))
