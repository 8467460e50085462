-- A list without repeats stays one where an absent element comes to its end.
use Rattle.std.proofs.Common.{◌≡◌, ◌+◌, ◌<◌, Bool, List, [], ◌∷◌, ◌++◌, length, inl, inr, arith}
use Rattle.distinct.specs.Repeats.{Absent, NoRepeats}
use Rattle.std.proofs.lemmas.List.{get_or_append_left, get_or_push, length_push}
use Rattle.std.proofs.lemmas.Bool.{cases_lt}

pub no_repeats_push : {X : Type 0} (E : X → X → Bool → Type 0) (xs : List X) (x : X) → NoRepeats E xs → Absent E xs x → NoRepeats E (xs ++ x ∷ [])
no_repeats_push {X} E xs x old new i j d b =
    let h : i < j = b.0 in
    let k : j < length (xs ++ x ∷ []) = b.1 in
    let n : length (xs ++ x ∷ []) ≡ length xs + 1 = length_push xs x in
    let ie : i < length xs = omega arith in
    elim (cases_lt j (length xs)) [
      | inl l ↦ rw (get_or_append_left xs (x ∷ []) d i ie, get_or_append_left xs (x ∷ []) d j l) (old i j d (h, l))
      | inr l ↦
          let e : length xs ≡ j = omega arith in
          rw (get_or_append_left xs (x ∷ []) d i ie, get_or_push xs x d j e) (new i d ie)
    ]
