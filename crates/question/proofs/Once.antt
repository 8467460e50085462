-- Each atom kept once, by a loop that puts it behind those kept.
use Rattle.vocabulary.specs.Equality.{atom_eq}
use Rattle.std.proofs.Common.{◌≡◌, ℕ, ◌+◌, ◌<◌, ◌≤◌, Bool, true, false, cond, ◌||◌, List, [], ◌∷◌, ◌++◌, length, get_or, drop, sym, refl, ap, ◌∙◌, subst, append_assoc, append-nil, arith, length-append}
use Rattle.question.proofs.Counting.{stands_any}
use Rattle.question.specs.Shorts.{with_new}
use Rattle.std.proofs.lemmas.List.{at_drop_more, at_drop_all}
use Rattle.std.proofs.lemmas.Bool.{cond_both, cond-true, cond-false}
use Rattle.theory.specs.Tidying.{stands_in, once_each}
use Rattle.vocabulary.specs.declared.questions.Atom.{Atom}

-- the atom put behind the others, unless one of them equals it
abbrev added : List Atom → Atom → List Atom
added kept a = cond (stands_in a kept) kept (kept ++ a ∷ [])

-- each atom in turn put behind those kept, if it does not stand there
unfoldable pub once_onto : List Atom → List Atom → List Atom
once_onto kept [] = kept
once_onto kept (a ∷ rest) = once_onto (added kept a) rest

-- kept and before hold the same atoms
abbrev Alike : List Atom → List Atom → Type 0
Alike kept before = (a : Atom) → stands_in a kept ≡ stands_in a before

stands_push : (a b : Atom) (xs : List Atom) → stands_in a (xs ++ b ∷ []) ≡ (atom_eq a b || stands_in a xs)
unfolding stands_in
stands_push a b [] = refl
stands_push a b (x ∷ xs) = ap (λ (v : Bool). atom_eq a x || v) (stands_push a b xs) ∙ swap (atom_eq a x) (atom_eq a b) (stands_in a xs)
  where
    swap : (u v w : Bool) → (u || (v || w)) ≡ (v || (u || w))
    swap true true w = refl
    swap true false w = refl
    swap false true w = refl
    swap false false w = refl

once_onto_is : (kept before xs : List Atom) → Alike kept before → once_onto kept xs ≡ kept ++ once_each before xs
unfolding once_onto once_each stands_in
once_onto_is kept before [] same = sym (append-nil kept)
once_onto_is kept before (a ∷ xs) same =
    cond_both (stands_in a before) (once_each before xs) (a ∷ once_each (a ∷ before) xs) (λ (ys : List Atom). once_onto (added kept a) xs ≡ kept ++ ys)
    (λ e. ap (λ (ks : List Atom). once_onto ks xs) (cond-true (stands_in a kept) kept (kept ++ a ∷ []) (same a ∙ e)) ∙ once_onto_is kept before xs same)
    (λ e. ap (λ (ks : List Atom). once_onto ks xs) (cond-false (stands_in a kept) kept (kept ++ a ∷ []) (same a ∙ e))
    ∙ once_onto_is (kept ++ a ∷ []) (a ∷ before) xs (λ b. stands_push b a kept ∙ ap (λ (v : Bool). atom_eq b a || v) (same b))
    ∙ append_assoc kept (a ∷ []) (once_each (a ∷ before) xs))

once_all : (xs : List Atom) → once_onto [] xs ≡ once_each [] xs
once_all xs = once_onto_is [] [] xs (λ a. refl)

-- what a short list promises of a new element, said of atoms
pub new_added : (kept : List Atom) (a : Atom) → with_new atom_eq kept a ≡ added kept a
new_added kept a = ap (λ (v : Bool). cond v kept (kept ++ a ∷ [])) (sym (stands_any a kept))

pub once_turn : (d : Atom) (kept made xs : List Atom) (i : ℕ) (all : List Atom) → i < length xs → made ≡ added kept (get_or xs i d) → once_onto kept (drop i xs) ≡ all → once_onto made (drop (i + 1) xs) ≡ all
unfolding once_onto
once_turn d kept made xs i all h e inv = ap (λ (ys : List Atom). once_onto ys (drop (i + 1) xs)) e ∙ sym (at_drop_more (once_onto kept) xs i d h) ∙ inv

pub once_room : (a : Atom) (kept made : List Atom) → made ≡ added kept a → length made ≤ length kept + 1
once_room a kept made e = subst (λ (ys : List Atom). length ys ≤ length kept + 1) (sym e)
    (cond_both (stands_in a kept) kept (kept ++ a ∷ []) (λ (ys : List Atom). length ys ≤ length kept + 1) (λ t. omega arith) (λ f. omega (arith, length-append kept (a ∷ []))))

pub once_end : (kept xs zs : List Atom) (i : ℕ) → xs ≡ zs → length xs ≤ i → once_onto kept (drop i xs) ≡ once_onto [] xs → kept ≡ once_each [] zs
unfolding once_onto
once_end kept xs zs i e h inv = sym (at_drop_all (once_onto kept) xs i h) ∙ inv ∙ once_all xs ∙ ap (once_each []) e
