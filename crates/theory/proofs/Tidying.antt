-- Tidying a question changes no row's truth.
use Rattle.vocabulary.specs.Equality.{atom_eq, atom_eq_same}
use Rattle.std.proofs.Common.{◌≡◌, ℕ, zero, suc, ◌≤◌, Bool, true, false, cond, eqb, ◌⊎◌, ◌↔◌, List, [], ◌∷◌, ◌++◌, map, length, sym, refl, ap, ◌∙◌, subst, inl, inr, ⊎_elim, arith}
use Rattle.std.proofs.ByRecursion.{All-map, All-weaker}
use Rattle.std.proofs.lemmas.Bool.{false≢true, true≢false, eqb-true, eq-eqb, ne_eqb, and_parts, or_cases, cond_both, cond-true, cond-false, cases_Bool}
use Rattle.std.specs.List.{AllByRecursion}
use Rattle.theory.proofs.Lists.{all_unmap, matched_map, matched_unmap}
use Rattle.theory.proofs.Occurrences.{times_here, times_more}
use Rattle.theory.proofs.Terms.{Respects, Reflects, holds_map, holds_unmap, all_terms_map}
use Rattle.theory.specs.Lists.{Matched}
use Rattle.theory.specs.Questions.{Query, Serves, Holds, True}
use Rattle.theory.specs.Tidying.{stands_in, once_each, all_terms, times, lone, opened, on_terms, round, rounds, firsts, place, numbered, tidy}
use Rattle.theory.specs.Worlds.{Shape}
use Rattle.vocabulary.specs.declared.numbers.Name.{Name}
use Rattle.vocabulary.specs.declared.questions.Atom.{Atom}
use Rattle.vocabulary.specs.declared.questions.Atom.TheVariants.{IsIn, Joins}
use Rattle.vocabulary.specs.declared.questions.Term.{Term}
use Rattle.vocabulary.specs.declared.questions.Term.TheVariants.{Variable, Constant, Open}

-- the variable at a place of the order
pub variable_at : List ℕ → ℕ → ℕ
variable_at [] k = k
variable_at (m ∷ ms) zero = m
variable_at (m ∷ ms) (suc k) = variable_at ms k

pub variable_at_place : (n : ℕ) (order : List ℕ) → variable_at order (place n order) ≡ n
unfolding variable_at place
variable_at_place n [] = refl
variable_at_place n (m ∷ ms) = cond_both (eqb n m) 0 (suc (place n ms)) (λ (k : ℕ). variable_at (m ∷ ms) k ≡ n) (λ e. sym (eqb-true n m e)) (λ e. variable_at_place n ms)

-- numbering respects and reflects what serves, with the things of the variables numbered too
numbered_respects : {A : Type 0} (names : Name → A) (v : ℕ → A) (order : List ℕ) → Respects names v (λ k. v (variable_at order k)) (numbered order)
numbered_respects names v order (Variable n) x h = ap v (variable_at_place n order) ∙ h
numbered_respects names v order (Constant a) x h = h
numbered_respects names v order Open x h = h

numbered_reflects : {A : Type 0} (names : Name → A) (v : ℕ → A) (order : List ℕ) → Reflects names (λ n. v (place n order)) v (numbered order)
numbered_reflects names v order (Variable n) x h = h
numbered_reflects names v order (Constant a) x h = h
numbered_reflects names v order Open x h = h

-- what holds of each atom once holds of all, and the other way round
stands_holds : (P : Atom → Type 0) (a : Atom) (before : List Atom) → stands_in a before ≡ true → AllByRecursion P before → P a
unfolding stands_in
stands_holds P a [] e h = absurd (false≢true e)
stands_holds P a (b ∷ bs) e h = pick (λ p. stands_holds P a bs p h.1) (or_cases (atom_eq a b) (stands_in a bs) e)
  where
    pick : (stands_in a bs ≡ true → P a) → (atom_eq a b ≡ true) ⊎ (stands_in a bs ≡ true) → P a
    pick rec (inl p) = subst P (sym ((atom_eq_same a b).0 p)) h.0
    pick rec (inr p) = rec p

all_from_once : (P : Atom → Type 0) (before xs : List Atom) → AllByRecursion P before → AllByRecursion P (once_each before xs) → AllByRecursion P xs
unfolding once_each
all_from_once P before [] g h = tt
all_from_once P before (a ∷ rest) g h =
    pick (all_from_once P before rest g) (λ p k. all_from_once P (a ∷ before) rest (p, g) k) (stands_in a before) refl h
  where
    pick : (AllByRecursion P (once_each before rest) → AllByRecursion P rest) → (P a → AllByRecursion P (once_each (a ∷ before) rest) → AllByRecursion P rest) →
        (b : Bool) → stands_in a before ≡ b → AllByRecursion P (cond b (once_each before rest) (a ∷ once_each (a ∷ before) rest)) → AllByRecursion P (a ∷ rest)
    pick rec more true e k = (stands_holds P a before e g, rec k)
    pick rec more false e k = (k.0, more k.0 k.1)

all_once : (P : Atom → Type 0) (before xs : List Atom) → AllByRecursion P xs → AllByRecursion P (once_each before xs)
unfolding once_each
all_once P before [] h = tt
all_once P before (a ∷ rest) h =
    cond_both (stands_in a before) (once_each before rest) (a ∷ once_each (a ∷ before) rest) (AllByRecursion P)
    (λ e. all_once P before rest h.1) (λ e. (h.0, all_once P (a ∷ before) rest h.1))

-- opening respects what serves
opened_respects : {A : Type 0} (names : Name → A) (v : ℕ → A) (test : ℕ → Bool) → Respects names v v (opened test)
opened_respects names v test (Variable n) x h = cond_both (test n) Open (Variable n) (λ (t : Term). Serves names v t x) (λ e. tt) (λ e. h)
opened_respects names v test (Constant a) x h = h
opened_respects names v test Open x h = h

-- a variable that does not pass the test stays
pub opened_variable : (test : ℕ → Bool) (n : ℕ) → test n ≡ false → opened test (Variable n) ≡ Variable n
opened_variable test n e = cond-false (test n) Open (Variable n) e

-- the atoms hold of the things, one for each of their terms in order
Grounded : (s : Shape) → List Atom → List s.Carrier → Type 0
Grounded s [] [] = Unit {0}
Grounded s [] (x ∷ zs) = ⊥
Grounded s (IsIn c t ∷ rest) [] = ⊥
Grounded s (IsIn c t ∷ rest) (x ∷ zs) = s.class c x × Grounded s rest zs
Grounded s (Joins l t u ∷ rest) [] = ⊥
Grounded s (Joins l t u ∷ rest) (x ∷ []) = ⊥
Grounded s (Joins l t u ∷ rest) (x ∷ (y ∷ zs)) = s.link l x y × Grounded s rest zs

to_things : (s : Shape) (v : ℕ → s.Carrier) (xs : List Atom) → AllByRecursion (Holds s v) xs → (zs : List s.Carrier) × Matched (Serves s.thing v) (all_terms xs) zs × Grounded s xs zs
unfolding all_terms Grounded
to_things s v [] h = ([], tt, tt)
to_things s v (IsIn c t ∷ rest) h =
    let k = to_things s v rest h.1 in
    (h.0.0 ∷ k.0, (h.0.1, k.1), (h.0.2, k.2))
to_things s v (Joins l t u ∷ rest) h =
    let k = to_things s v rest h.1 in
    (h.0.0 ∷ (h.0.1 ∷ k.0), (h.0.2, (h.0.3, k.1)), (h.0.4, k.2))

from_things : (s : Shape) (v : ℕ → s.Carrier) (xs : List Atom) (zs : List s.Carrier) → Matched (Serves s.thing v) (all_terms xs) zs → Grounded s xs zs → AllByRecursion (Holds s v) xs
unfolding all_terms Grounded
from_things s v [] zs e g = tt
from_things s v (IsIn c t ∷ rest) [] e g = absurd g
from_things s v (IsIn c t ∷ rest) (x ∷ zs) e g = ((x, e.0, g.0), from_things s v rest zs e.1 g.1)
from_things s v (Joins l t u ∷ rest) [] e g = absurd g
from_things s v (Joins l t u ∷ rest) (x ∷ []) e g = absurd g
from_things s v (Joins l t u ∷ rest) (x ∷ (y ∷ zs)) e g = ((x, y, e.0, e.1.0, g.0), from_things s v rest zs e.1.1 g.1)

grounded_unmap : (s : Shape) (f : Term → Term) (xs : List Atom) (zs : List s.Carrier) → Grounded s (map (on_terms f) xs) zs → Grounded s xs zs
unfolding Grounded
grounded_unmap s f [] [] g = g
grounded_unmap s f [] (x ∷ zs) g = g
grounded_unmap s f (IsIn c t ∷ rest) [] g = g
grounded_unmap s f (IsIn c t ∷ rest) (x ∷ zs) g = (g.0, grounded_unmap s f rest zs g.1)
grounded_unmap s f (Joins l t u ∷ rest) [] g = g
grounded_unmap s f (Joins l t u ∷ rest) (x ∷ []) g = g
grounded_unmap s f (Joins l t u ∷ rest) (x ∷ (y ∷ zs)) g = (g.0, grounded_unmap s f rest zs g.1)

-- what serves under one choice of things serves under another that agrees on the variables of the terms
matched_agree : (s : Shape) (v w : ℕ → s.Carrier) (ts : List Term) (zs : List s.Carrier) → ((n : ℕ) → 1 ≤ times n ts → w n ≡ v n) → Matched (Serves s.thing v) ts zs → Matched (Serves s.thing w) ts zs
matched_agree s v w [] [] a h = tt
matched_agree s v w [] (z ∷ zs) a h = h
matched_agree s v w (t ∷ ts) [] a h = h
matched_agree s v w (t ∷ ts) (z ∷ zs) a h =
    (one t (λ n. a n) h.0, matched_agree s v w ts zs (λ n k. a n (omega (arith, times_more n t ts))) h.1)
  where
    one : (t : Term) → ((n : ℕ) → 1 ≤ times n (t ∷ ts) → w n ≡ v n) → Serves s.thing v t z → Serves s.thing w t z
    one (Variable n) a h = a n (omega (arith, times_here n ts)) ∙ h
    one (Constant b) a h = h
    one Open a h = h

-- what serves for terms opened serves for the terms, with things of their own for the opened variables
opened_back : (s : Shape) (test : ℕ → Bool) (v : ℕ → s.Carrier) (ts : List Term) (zs : List s.Carrier) → ((n : ℕ) → test n ≡ true → times n ts ≤ 1) →
    Matched (Serves s.thing v) (map (opened test) ts) zs →
    (w : ℕ → s.Carrier) × ((n : ℕ) → test n ≡ false → w n ≡ v n) × Matched (Serves s.thing w) ts zs
unfolding times
opened_back s test v [] [] a h = (v, λ n e. refl, tt)
opened_back s test v [] (z ∷ zs) a h = absurd h
opened_back s test v (t ∷ ts) [] a h = absurd h
opened_back s test v (Constant b ∷ ts) (z ∷ zs) a h =
    let k = opened_back s test v ts zs a h.1 in (k.0, k.1, (h.0, k.2))
opened_back s test v (Open ∷ ts) (z ∷ zs) a h =
    let k = opened_back s test v ts zs a h.1 in (k.0, k.1, (tt, k.2))
opened_back s test v (Variable m ∷ ts) (z ∷ zs) a h =
    pick (opened_back s test v ts zs (λ n e. omega (arith, times_more n (Variable m) ts, a n e)) h.1) (test m) refl h.0
  where
    pick : (w : ℕ → s.Carrier) × ((n : ℕ) → test n ≡ false → w n ≡ v n) × Matched (Serves s.thing w) ts zs → (b : Bool) → test m ≡ b →
        Serves s.thing v (cond b Open (Variable m)) z → (w : ℕ → s.Carrier) × ((n : ℕ) → test n ≡ false → w n ≡ v n) × ((w m ≡ z) × Matched (Serves s.thing w) ts zs)
    pick k false e g = (k.0, k.1, (k.1 m e ∙ g, k.2))
    pick k true e g =
        let w : ℕ → s.Carrier = λ n. cond (eqb n m) z (k.0 n) in
        let other : (n : ℕ) → (n ≡ m → ⊥) → w n ≡ k.0 n = λ n d. cond-false (eqb n m) z (k.0 n) (ne_eqb n m d) in (
          w,
          λ n f. other n (λ p. true≢false (sym e ∙ (ap test (sym p) ∙ f))) ∙ k.1 n f,
          (
            cond-true (eqb m m) z (k.0 m) (eq-eqb m m refl),
            matched_agree s k.0 w ts zs
                (λ n c. other n (λ p. omega (arith, a m e, times_here m ts, subst (λ (j : ℕ). 1 ≤ times j ts) p c))) k.2,
          ),
        )

-- a variable that is lone by the test stands outside the head and once; so one of the head is not
lone_once : (head body : List Term) (n : ℕ) → lone head body n ≡ true → (times n head ≡ 0) × (times n body ≡ 1)
lone_once head body n e =
    let p = and_parts (eqb (times n head) 0) (eqb (times n body) 1) e in
    (eqb-true (times n head) 0 p.0, eqb-true (times n body) 1 p.1)

pub not_lone : (head body : List Term) (n : ℕ) → (times n head ≡ 0 → times n body ≡ 1 → ⊥) → lone head body n ≡ false
not_lone head body n d = ⊎_elim (λ e. let p = lone_once head body n e in absurd (d p.0 p.1)) (λ e. e) (cases_Bool (lone head body n))

pub lone_not_head : (head body : List Term) (n : ℕ) → 1 ≤ times n head → lone head body n ≡ false
lone_not_head head body n h = not_lone head body n (λ p q. omega arith)

-- a row that is true after a round, after rounds, after tidying was true before
round_back : (s : Shape) (q : Query) (row : List Name) → True s (round q) row → True s q row
unfolding round
round_back s q row h =
    let v = h.0 in
    let kept = once_each [] q.atoms in
    let test = lone q.head (all_terms kept) in
    let k = to_things s v (map (on_terms (opened test)) kept) h.2 in
    let e = subst (λ (ts : List Term). Matched (Serves s.thing v) ts k.0) (all_terms_map (opened test) kept) k.1 in
    let once : (n : ℕ) → test n ≡ true → times n (all_terms kept) ≤ 1 = λ n p. omega (arith, lone_once q.head (all_terms kept) n p) in
    let o = opened_back s test v (all_terms kept) k.0 once e in (
      o.0,
      matched_agree s v o.0 q.head (map s.thing row) (λ n c. o.1 n (lone_not_head q.head (all_terms kept) n c)) h.1,
      all_from_once (Holds s o.0) [] q.atoms tt (from_things s o.0 kept k.0 o.2 (grounded_unmap s (opened test) kept k.0 k.2)),
    )

rounds_back : (s : Shape) (n : ℕ) (q : Query) (row : List Name) → True s (rounds n q) row → True s q row
unfolding rounds
rounds_back s zero q row h = h
rounds_back s (suc n) q row h = rounds_back s n q row (round_back s (rounds n q) row h)

pub tidy_back : (s : Shape) (q : Query) (row : List Name) → True s (tidy q) row → True s q row
unfolding tidy
tidy_back s q row (v, h, k) =
    let r = rounds (suc (length q.atoms)) q in
    let order = firsts (r.head ++ all_terms r.atoms) [] in
    let w : ℕ → s.Carrier = λ n. v (place n order) in
    let back = numbered_reflects s.thing v order in
    rounds_back s (suc (length q.atoms)) q row (
      w,
      matched_unmap (Serves s.thing w) (Serves s.thing v) (numbered order) back r.head (map s.thing row) h,
      all_unmap (Holds s w) (Holds s v) (on_terms (numbered order)) (holds_unmap s w v (numbered order) back) r.atoms k,
    )

-- What is said of atoms outlasts tidying if it outlasts every change that respects what serves, and the leaving out of repeated atoms.
module _ {A : Type 0} (names : Name → A) (Said : (ℕ → A) → List Atom → Type 0)
    (changed : (v w : ℕ → A) (f : Term → Term) → Respects names v w f → (xs : List Atom) → Said v xs → Said w (map (on_terms f) xs))
    (once : (v : ℕ → A) (xs : List Atom) → Said v xs → Said v (once_each [] xs)) where
  abbrev Answers : Query → List A → Type 0
  Answers q row = (v : ℕ → A) × Matched (Serves names v) q.head row × Said v q.atoms

  round_on : (q : Query) (row : List A) → Answers q row → Answers (round q) row
  unfolding round
  round_on q row (v, h, k) =
      let kept = once_each [] q.atoms in
      let test = lone q.head (all_terms kept) in
      (v, h, changed v v (opened test) (opened_respects names v test) kept (once v q.atoms k))

  rounds_on : (n : ℕ) (q : Query) (row : List A) → Answers q row → Answers (rounds n q) row
  unfolding rounds
  rounds_on zero q row h = h
  rounds_on (suc n) q row h = round_on (rounds n q) row (rounds_on n q row h)

  pub tidy_said : (q : Query) (row : List A) → Answers q row → Answers (tidy q) row
  unfolding tidy
  tidy_said q row h =
      let r = rounds (suc (length q.atoms)) q in
      let order = firsts (r.head ++ all_terms r.atoms) [] in
      let (v, k, l) = rounds_on (suc (length q.atoms)) q row h in
      let w : ℕ → A = λ n. v (variable_at order n) in
      let serves = numbered_respects names v order in
      (w, matched_map (Serves names v) (Serves names w) (numbered order) serves r.head row k, changed v w (numbered order) serves r.atoms l)

-- a row is true before tidying just where it is after
tidy_on : (s : Shape) (q : Query) (row : List Name) → True s q row → True s (tidy q) row
tidy_on s q row h = tidy_said s.thing (λ v. AllByRecursion (Holds s v))
    (λ v w f serves xs k. All-map (Holds s w) (on_terms f) xs (All-weaker (Holds s v) (λ a. Holds s w (on_terms f a)) (holds_map s v w f serves) xs k))
    (λ v xs k. all_once (Holds s v) [] xs k) q (map s.thing row) h

pub tidy_true : (s : Shape) (q : Query) (row : List Name) → True s q row ↔ True s (tidy q) row
tidy_true s q row = (tidy_on s q row, tidy_back s q row)
