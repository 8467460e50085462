-- The places of a list store's table: how many facts there are, by what lies behind them, and what it takes.
use Rattle.std.proofs.Common.{◌≡◌, ℕ, ◌+◌, ◌<◌, ◌≢◌, List, [], length, take, drop, refl, ap, inl, inr, arith, length-drop, length-take}
use Rattle.facts.specs.Changes.{Kept}
use Rattle.std.proofs.lemmas.List.{drop_all}
use Rattle.std.proofs.lemmas.Bool.{cases_lt}
use Rattle.vocabulary.specs.declared.facts.Fact.{Fact}

module _ {X : Type 0} (n : ℕ) (xs : List X) where
  pub has_room : drop n xs ≢ [] → length (take n xs) < length xs
  has_room h =
      elim (cases_lt n (length xs)) [
        | inl l ↦ omega (arith, length-take n xs)
        | inr l ↦ absurd (h (drop_all n xs l))
      ]

  pub full : drop n xs ≡ [] → length (take n xs) < length xs → ⊥
  full h l = omega (arith, length-take n xs, length-drop n xs, ap length h)

-- one fact fewer leaves room
pub room_again : {X : Type 0} (n : ℕ) (xs : List X) (zs : List X) → length zs ≡ length xs → {left : ℕ} → length (take n xs) ≡ left + 1 → left < length zs
room_again n xs zs room fewer = omega (arith, length-take n xs)

-- the same facts in as many places mean the same
pub kept : (places after : ℕ) (xs ys : List Fact) → after ≡ places → ys ≡ xs → Kept (λ zs _. length zs < places) (λ zs _. length zs < after) xs ys
kept places after xs ys room same = record {
  list = same;
  takes = λ g. (λ h. omega (arith, ap length same), λ h. omega (arith, ap length same));
}

-- a store that nothing was done to
pub untouched : {T : List Fact → Fact → Type 0} {xs : List Fact} → Kept T T xs xs
untouched = record { list = refl; takes = λ g. (λ h. h, λ h. h) }
