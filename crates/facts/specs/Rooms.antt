-- What the number of places of a list store's table gives; ghost members cite it.
use Rattle.std.specs.Prelude.{ℕ, ◌<◌, ◌≤◌, List, length, take}
use Rattle.facts.specs.Passes.{ListPlaces}
use Rattle.std.proofs.Common.{sym, subst, length-take}
use Rattle.std.proofs.Math.Nat.{le_trans, lt_of_lt_of_le, min-le_right}

pub few_items : {X : Type 0} (n : ℕ) (xs : List X) → ListPlaces (length xs) → length (take n xs) ≤ 4096
few_items n xs h = subst (λ (k : ℕ). k ≤ 4096) (sym (length-take n xs)) (le_trans (min-le_right n (length xs)) h.1)

pub room : (places count : ℕ) → ListPlaces places → count < 128 → count < places
room places count h few = lt_of_lt_of_le few h.0
