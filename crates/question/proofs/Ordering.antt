-- The order in which variables first stand: loops that collect it, the place of a variable, and that each has one.
use Rattle.std.proofs.Common.{◌≡◌, ℕ, suc, ◌+◌, ◌*◌, ◌<◌, ◌≤◌, ◌==◌, nat_lt, Bool, true, false, not, cond, ◌||◌, Some, None, List, [], ◌∷◌, ◌++◌, length, get_or, take, sym, refl, ap, ◌∙◌, subst, arith, length-append, length-take-le}
use Rattle.question.specs.Parts.{OfAtom, Placed}
use Rattle.std.proofs.lemmas.Bool.Decides.{Decides-ltb}
use Rattle.std.proofs.lemmas.Bool.{cond_both, cond-true, false≢true}
use Rattle.std.proofs.lemmas.List.{take_more}
use Rattle.std.specs.List.{position, position_or_len}
use Rattle.theory.proofs.Order.{firsts_here, firsts_keep}
use Rattle.theory.specs.Tidying.{all_terms, known, firsts, place}
use Rattle.vocabulary.specs.declared.questions.Atom.TheVariants.{IsIn, Joins}
use Rattle.vocabulary.specs.declared.questions.Atom.{Atom}
use Rattle.vocabulary.specs.declared.questions.Term.TheVariants.{Variable, Constant, Open}
use Rattle.vocabulary.specs.declared.questions.Term.{Term}
use mathlib.Core.List.Memᴰ
use mathlib.Core.List.{Memᴰ}

pub firsts_append : (ts us : List Term) (seen : List ℕ) → firsts (ts ++ us) seen ≡ firsts us (firsts ts seen)
unfolding firsts
firsts_append [] us seen = refl
firsts_append (Variable n ∷ ts) us seen =
    elim (known n seen) as (λ b. cond b (firsts (ts ++ us) seen) (firsts (ts ++ us) (seen ++ n ∷ [])) ≡ firsts us (cond b (firsts ts seen) (firsts ts (seen ++ n ∷ []))))
    [ true ↦ firsts_append ts us seen | false ↦ firsts_append ts us (seen ++ n ∷ []) ]
firsts_append (Constant a ∷ ts) us seen = firsts_append ts us seen
firsts_append (Open ∷ ts) us seen = firsts_append ts us seen

pub firsts_one : (t : Term) (ts : List Term) (seen : List ℕ) → firsts (t ∷ ts) seen ≡ firsts ts (firsts (t ∷ []) seen)
firsts_one t ts seen = firsts_append (t ∷ []) ts seen

firsts_atom : (a : Atom) (xs : List Atom) (seen : List ℕ) → firsts (all_terms (a ∷ xs)) seen ≡ firsts (all_terms xs) (firsts (all_terms (a ∷ [])) seen)
unfolding all_terms
firsts_atom (IsIn c t) xs seen = firsts_append (t ∷ []) (all_terms xs) seen
firsts_atom (Joins l t u) xs seen = firsts_append (t ∷ u ∷ []) (all_terms xs) seen

-- a term brings at most one variable, an atom at most two
pub firsts_few : (ts : List Term) (seen : List ℕ) → length (firsts ts seen) ≤ length seen + length ts
unfolding firsts
firsts_few [] seen = omega arith
firsts_few (Variable n ∷ ts) seen =
    cond_both (known n seen) (firsts ts seen) (firsts ts (seen ++ n ∷ [])) (λ (ys : List ℕ). length ys ≤ length seen + length (Variable n ∷ ts))
    (λ e. omega (arith, firsts_few ts seen)) (λ e. omega (arith, firsts_few ts (seen ++ n ∷ []), length-append seen (n ∷ [])))
firsts_few (Constant a ∷ ts) seen = omega (arith, firsts_few ts seen)
firsts_few (Open ∷ ts) seen = omega (arith, firsts_few ts seen)

terms_few : (xs : List Atom) → length (all_terms xs) ≤ 2 * length xs
unfolding all_terms
terms_few [] = omega arith
terms_few (IsIn c t ∷ xs) = omega (arith, terms_few xs)
terms_few (Joins l t u ∷ xs) = omega (arith, terms_few xs)

-- a turn of a loop that collects them
pub firsts_more : (d : Term) (ts : List Term) (i : ℕ) (seen : List ℕ) → i < length ts → firsts (take (i + 1) ts) seen ≡ firsts (get_or ts i d ∷ []) (firsts (take i ts) seen)
firsts_more d ts i seen h = ap (λ (us : List Term). firsts us seen) (take_more ts i d h) ∙ firsts_append (take i ts) (get_or ts i d ∷ []) seen

pub firsts_room : (ts : List Term) (i : ℕ) (seen : List ℕ) → i < length ts → length (firsts (take i ts) seen) ≤ length seen + i
firsts_room ts i seen h = omega (arith, firsts_few (take i ts) seen, length-take-le i ts (omega arith))

terms_append : (xs ys : List Atom) → all_terms (xs ++ ys) ≡ all_terms xs ++ all_terms ys
unfolding all_terms
terms_append [] ys = refl
terms_append (IsIn c t ∷ xs) ys = ap (λ (us : List Term). t ∷ us) (terms_append xs ys)
terms_append (Joins l t u ∷ xs) ys = ap (λ (us : List Term). t ∷ (u ∷ us)) (terms_append xs ys)

pub body_more : (d : Atom) (xs : List Atom) (i : ℕ) (seen : List ℕ) → i < length xs →
    firsts (all_terms (take (i + 1) xs)) seen ≡ firsts (all_terms (get_or xs i d ∷ [])) (firsts (all_terms (take i xs)) seen)
body_more d xs i seen h =
    ap (λ (us : List Term). firsts us seen) (ap all_terms (take_more xs i d h) ∙ terms_append (take i xs) (get_or xs i d ∷ []))
    ∙ firsts_append (all_terms (take i xs)) (all_terms (get_or xs i d ∷ [])) seen

pub body_room : (xs : List Atom) (i : ℕ) (seen : List ℕ) → i < length xs → length (firsts (all_terms (take i xs)) seen) ≤ length seen + 2 * i
body_room xs i seen h = omega (arith, firsts_few (all_terms (take i xs)) seen, terms_few (take i xs), length-take-le i xs (omega arith))

-- the place of a variable that is in the order
prefix_place : (n : ℕ) (ms : List ℕ) → known n ms ≡ true → (position_or_len (λ m. n == m) ms ≡ place n ms) × (place n ms < length ms)
unfolding known place
prefix_place n [] h = absurd (false≢true h)
prefix_place n (m ∷ ms) h =
    cases_at (n == m) h (prefix_place n ms)
  where
    cases_at : (b : Bool) → (b || known n ms) ≡ true → (known n ms ≡ true → (position_or_len (λ k. n == k) ms ≡ place n ms) × (place n ms < length ms)) →
        (cond (not b) (1 + position_or_len (λ k. n == k) ms) 0 ≡ cond b 0 (suc (place n ms))) × (cond b 0 (suc (place n ms)) < suc (length ms))
    cases_at true e rest = (refl, omega arith)
    cases_at false e rest = let (p, l) = rest e in (omega (arith, p), omega (arith, l))

pub position_place : (n : ℕ) (ms : List ℕ) → known n ms ≡ true → position (λ m. n == m) ms ≡ Some (place n ms)
position_place n ms h =
    let (p, l) = prefix_place n ms h in
    cond-true (nat_lt (position_or_len (λ m. n == m) ms) (length ms)) (Some (position_or_len (λ m. n == m) ms)) None ((Decides-ltb (position_or_len (λ m. n == m) ms) (length ms)).1 (omega (arith, p, l))) ∙ ap Some p

-- every term has its place in the order of its list
placed_keep : (t : Term) (ts : List Term) (seen : List ℕ) → Placed seen t → Placed (firsts ts seen) t
placed_keep (Variable n) ts seen h = firsts_keep n ts seen h
placed_keep (Constant a) ts seen h = tt
placed_keep Open ts seen h = tt

placed_here : (t : Term) (ts : List Term) (seen : List ℕ) → Placed (firsts (t ∷ ts) seen) t
placed_here (Variable n) ts seen = firsts_here n ts seen
placed_here (Constant a) ts seen = tt
placed_here Open ts seen = tt

placed : (t : Term) (ts : List Term) (seen : List ℕ) → Memᴰ t ts → Placed (firsts ts seen) t
placed t [] seen m = elim m [ ]
placed t (u ∷ ts) seen (Memᴰ.head e) = subst (λ (v : Term). Placed (firsts (v ∷ ts) seen) t) e (placed_here t ts seen)
placed t (u ∷ ts) seen (Memᴰ.tail m) = subst (λ (ms : List ℕ). Placed ms t) (sym (firsts_one u ts seen)) (placed t ts (firsts (u ∷ []) seen) m)

placed_first : (a : Atom) (xs : List Atom) (seen : List ℕ) → OfAtom (Placed (firsts (all_terms (a ∷ xs)) seen)) a
unfolding all_terms
placed_first (IsIn c t) xs seen = placed_here t (all_terms xs) seen
placed_first (Joins l t u) xs seen = (placed_here t (u ∷ all_terms xs) seen, placed u (t ∷ u ∷ all_terms xs) seen (Memᴰ.tail (Memᴰ.head refl)))

placed_atom : (a : Atom) (xs : List Atom) (seen : List ℕ) → Memᴰ a xs → OfAtom (Placed (firsts (all_terms xs) seen)) a
placed_atom a [] seen m = elim m [ ]
placed_atom a (b ∷ xs) seen (Memᴰ.head e) = subst (λ (x : Atom). OfAtom (Placed (firsts (all_terms (x ∷ xs)) seen)) a) e (placed_first a xs seen)
placed_atom a (b ∷ xs) seen (Memᴰ.tail m) =
    subst (λ (ms : List ℕ). OfAtom (Placed ms) a) (sym (firsts_atom b xs seen)) (placed_atom a xs (firsts (all_terms (b ∷ [])) seen) m)

-- in the order of a question each term of the head and each atom has its places
pub placed_in_head : (ts : List Term) (us : List Term) (order : List ℕ) → order ≡ firsts (ts ++ us) [] → (t : Term) → Memᴰ t ts → Placed order t
placed_in_head ts us order e t m = subst (λ (ms : List ℕ). Placed ms t) (sym e) (placed t (ts ++ us) [] (Memᴰ.append_left us m))

pub placed_in_body : (ts : List Term) (xs : List Atom) (order : List ℕ) → order ≡ firsts (ts ++ all_terms xs) [] → (a : Atom) → Memᴰ a xs → OfAtom (Placed order) a
placed_in_body ts xs order e a m =
    subst (λ (ms : List ℕ). OfAtom (Placed ms) a) (sym (e ∙ firsts_append ts (all_terms xs) [])) (placed_atom a xs (firsts ts []) m)
