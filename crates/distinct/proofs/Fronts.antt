-- The front of a list by its own length, and what lies behind it.
use Rattle.std.proofs.Common.{◌≡◌, ℕ, zero, suc, ◌-◌, ◌<◌, ◌≤◌, ◌≢◌, List, [], ◌∷◌, length, take, drop, sym, refl, ap, ◌∙◌, arith, length-drop, length-take}
use native.Mathlib.Nat.{sub-zero}

front : {X : Type 0} (n : ℕ) (xs : List X) → take (length (take n xs)) xs ≡ take n xs
front zero xs = refl
front (suc n) [] = refl
front (suc n) (x ∷ xs) = ap (λ ys. x ∷ ys) (front n xs)

-- `&xs[0..count]`, where count is how many places the front has
pub take_count : {X : Type 0} (n : ℕ) (xs : List X) {count : ℕ} → count ≡ length (take n xs) → take (count - 0) xs ≡ take n xs
take_count n xs {count} e = ap (λ m. take m xs) (sub-zero count ∙ e) ∙ front n xs

pub count_within : {X : Type 0} (n : ℕ) (xs : List X) {count : ℕ} → count ≡ length (take n xs) → count ≤ length xs
count_within n xs e = omega (arith, length-take n xs)

-- something lies behind a front that is shorter than the list
pub rest_some : {X : Type 0} (n : ℕ) (xs : List X) → n < length xs → drop n xs ≢ []
rest_some n xs h e = omega (arith, length-drop n xs, ap length e)

-- what lies behind a front, by the front's own length
rest : {X : Type 0} (n : ℕ) (xs : List X) → drop (length (take n xs)) xs ≡ drop n xs
rest zero xs = refl
rest (suc n) [] = refl
rest (suc n) (x ∷ xs) = rest n xs

pub take_front : {X : Type 0} (n : ℕ) (xs : List X) {count : ℕ} → count ≡ length (take n xs) → take n xs ≡ take count xs
take_front n xs e = sym (ap (λ m. take m xs) e ∙ front n xs)

pub drop_front : {X : Type 0} (n : ℕ) (xs : List X) {count : ℕ} → count ≡ length (take n xs) → drop n xs ≡ drop count xs
drop_front n xs e = sym (ap (λ m. drop m xs) e ∙ rest n xs)
