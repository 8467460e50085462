-- A table of words as a symmetric relation on the numbers below 64 * stride, with `stride` words to a row.
use Rattle.std.specs.Prelude.{◌≡◌, ℕ, ◌+◌, ◌*◌, ◌/◌, ◌%◌, ◌<◌, ◌≤◌, Bool, true, false, ◌⊎◌, List, Some, None, Option}
use Rattle.bits.specs.Words.{bit_of, unset, word}

-- the bit of row a and column b: bit b % 64 of word stride * a + b / 64
unfoldable pub pair : ℕ → List ℕ → ℕ → ℕ → Bool
pair stride t a b = bit_of (word t (stride * a + b / 64)) (b % 64)

-- a and b are in range, and the table relates them
pub record On (stride : ℕ) (t : List ℕ) (a b : ℕ) : Type 0 where
  pub row : a < 64 * stride
  pub column : b < 64 * stride
  pub set : pair stride t a b ≡ true

abbrev pub Symmetric : ℕ → List ℕ → Type 0
Symmetric stride t = (x y : ℕ) → (x < 64 * stride) × (y < 64 * stride) → pair stride t x y ≡ pair stride t y x

-- the number of the bit of row a and column b, where both are in range
abbrev pub Placed : ℕ → ℕ → ℕ → Option ℕ → Type 0
Placed stride a b None = (a < 64 * stride) × (b < 64 * stride) → ⊥
Placed stride a b (Some m) = (a < 64 * stride) × (b < 64 * stride) × (m ≡ 64 * (stride * a) + b)

-- S, with a and b related both ways
abbrev pub Joined : ℕ → ℕ → (ℕ → ℕ → Type 0) → ℕ → ℕ → Type 0
Joined a b S x y = S x y ⊎ (((x ≡ a) × (y ≡ b)) ⊎ ((x ≡ b) × (y ≡ a)))

-- the least symmetric relation that holds S and relates `from` to all that it relates to `to`
pub data Inherited (from to : ℕ) (S : ℕ → ℕ → Type 0) : ℕ → ℕ → Type 0 where
  base : {x y : ℕ} → S x y → Inherited from to S x y
  flip : {x y : ℕ} → Inherited from to S x y → Inherited from to S y x
  pass : {y : ℕ} → Inherited from to S to y → Inherited from to S from y

-- every number below n that the table relates to `to` it relates to `from`
abbrev pub Covers : ℕ → List ℕ → ℕ → ℕ → ℕ → Type 0
Covers stride t from to n = (k : ℕ) → k < n → On stride t to k → On stride t from k

-- A step from s to t: nothing is lost, and all of t is in D; r says whether a bit was added.
-- Where none was, the table is as it was, and C holds of it.
pub record Grows (stride : ℕ) (D : ℕ → ℕ → Type 0) (C : List ℕ → Type 0) (r : Bool) (s t : List ℕ) : Type 0 where
  pub more : (x y : ℕ) → On stride s x y → On stride t x y
  pub sound : (x y : ℕ) → On stride t x y → D x y
  pub at_most : unset t ≤ unset s
  pub added : r ≡ true → unset t < unset s
  pub idle : r ≡ false → (t ≡ s) × C t

-- a step that relates a and b
abbrev pub Joins : ℕ → ℕ → ℕ → Bool → List ℕ → List ℕ → Type 0
Joins stride a b r s t = Grows stride (Joined a b (On stride s)) (λ v. a < 64 * stride → b < 64 * stride → On stride v a b) r s t

-- a step that relates `from` to all that `to` is related to
abbrev pub Inherits : ℕ → ℕ → ℕ → Bool → List ℕ → List ℕ → Type 0
Inherits stride from to r s t = Grows stride (Inherited from to (On stride s)) (λ v. from < 64 * stride → Covers stride v from to (64 * stride)) r s t
