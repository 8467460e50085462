-- Loops over the facts of a source: which fact a turn has, and where the turns end.
use Rattle.std.proofs.Common.{◌≡◌, ℕ, ◌+◌, ◌<◌, ◌≤◌, List, length, drop, Some, None, Option, sym, ap, ◌∙◌, arith, length-drop}
use Rattle.std.proofs.lemmas.Iterator.{YieldsList}
use Rattle.std.proofs.lemmas.Iterator.Consumers.{YieldsList-end, YieldsList-turn}
use Rattle.std.proofs.lemmas.List.FromFn.{get_or-enumerate_from, length-enumerate_from}
use Rattle.std.proofs.lemmas.List.{get_or-drop}
use Rattle.std.proofs.lemmas.Option.{slice_get-get_or}
use Rattle.std.specs.Iterator.{Yields}
use Rattle.std.specs.List.{enumerate_from, slice_get}

module _ {X S : Type 0} {steps : S → Option X → S → Type 0} {s : S} (xs : List X) (place : ℕ) (chain : YieldsList steps (λ x. x) s (drop place xs)) (ys : List X) (t : S) (so_far : Yields steps s ys t) where
  pub turn_place : (r : Option X) (u : S) (x : X) → r ≡ Some x → steps t r u → (k : ℕ) → place + length ys ≡ k → slice_get xs k ≡ Some x
  turn_place r u x is step k e =
      let turn = YieldsList-turn chain ys t so_far r u x is step in
      ap (slice_get xs) (sym e) ∙ slice_get-get_or xs (place + length ys) x (omega (arith, turn.0, length-drop place xs))
      ∙ ap Some (sym (turn.1 ∙ get_or-drop place xs (length ys) x))

  pub turns_end : (r : Option X) (u : S) → r ≡ None → steps t r u → length xs ≤ place + length ys
  turns_end r u is step = omega (arith, (YieldsList-end chain ys t so_far r u is step).1, length-drop place xs)

-- the same where the facts are counted
module _ {X S : Type 0} {steps : S → Option (ℕ × X) → S → Type 0} {s : S} (xs : List X) (chain : YieldsList steps (λ p. (p.0, p.1)) s (enumerate_from 0 xs)) (ys : List (ℕ × X)) (t : S) (so_far : Yields steps s ys t) where
  pub counted_place : (r : Option (ℕ × X)) (u : S) (i : ℕ) (x : X) → r ≡ Some (i, x) → steps t r u → (i ≡ length ys) × (slice_get xs i ≡ Some x)
  counted_place r u i x is step =
      let turn = YieldsList-turn chain ys t so_far r u (i, x) is step in
      let low : length ys < length xs = omega (arith, turn.0, length-enumerate_from 0 xs) in
      let e = turn.1 ∙ get_or-enumerate_from 0 xs (length ys) (i, x) low in
      let count : i ≡ length ys = ap (λ p. p.0) e ∙ (let z : 0 + length ys ≡ length ys = omega arith in z) in
      (count, ap (slice_get xs) count ∙ slice_get-get_or xs (length ys) x low ∙ ap Some (sym (ap (λ p. p.1) e)))

  pub counted_end : (r : Option (ℕ × X)) (u : S) → r ≡ None → steps t r u → length xs ≡ length ys
  counted_end r u is step = omega (arith, (YieldsList-end chain ys t so_far r u is step).1, length-enumerate_from 0 xs)
