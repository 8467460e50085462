-- The bits of a table of bytes, the numbers whose bit is set, and counts of them.
use Rattle.std.specs.Prelude.{◌≡◌, ℕ, zero, suc, ◌+◌, ◌*◌, ◌/◌, ◌%◌, ◌<◌, ◌≤◌, Bool, true, false, cond, List, [], ◌∷◌, ◌++◌, length, ◌≢◌, slice_index}
use Rattle.bits.specs.Words.{bit_of}
use Rattle.std.specs.List.{All}

-- bit k of a table is bit k % 8, lowest 0, of byte k / 8; past the table no bit is set
unfoldable pub bit_at : List ℕ → ℕ → Bool
bit_at t k = bit_of (slice_index t (k / 8)) (k % 8)

-- how many of the numbers below m pass a test
unfoldable pub tally : (ℕ → Bool) → ℕ → ℕ
tally p zero = zero
tally p (suc m) = tally p m + cond (p m) 1 0

-- the numbers below m that pass a test, ascending
unfoldable pub listed : (ℕ → Bool) → ℕ → List ℕ
listed p zero = []
listed p (suc m) = listed p m ++ cond (p m) (m ∷ []) []

-- q passes what p passes, and k too, which p does not
pub record OneMore (k : ℕ) (p q : ℕ → Bool) : Type 0 where
  pub off : p k ≡ false
  pub on : q k ≡ true
  pub others : (x : ℕ) → (x ≢ k) → q x ≡ p x

-- from p to q only k changes: it comes to pass if `on`, and else it no longer does
abbrev pub Turned : Bool → ℕ → (ℕ → Bool) → (ℕ → Bool) → Type 0
Turned true k p q = OneMore k p q
Turned false k p q = OneMore k q p

-- x passes, and i numbers before it do
pub record Ranked (p : ℕ → Bool) (i x : ℕ) : Type 0 where
  pub on : p x ≡ true
  pub rank : tally p x ≡ i

-- the sum of the first i numbers of a list
unfoldable pub sums : List ℕ → ℕ → ℕ
sums xs zero = zero
sums xs (suc i) = sums xs i + slice_index xs i

-- each of the first n numbers of xs counts how many of the next g numbers pass
abbrev pub Counts : (ℕ → Bool) → ℕ → ℕ → List ℕ → Type 0
Counts p g n xs = (i : ℕ) → i ≤ n → sums xs i ≡ tally p (i * g)

-- R answers the size of each x of xs, and nothing else, by v
abbrev pub Measures : {X : Type 0} → (X → ℕ → Type 0) → (X → ℕ) → List X → Type 0
Measures R v xs = All (λ x. (n : ℕ) → R x n → n ≡ v x) xs

-- xs are sizes: all of them reach further than `left` beyond those before `from`
abbrev pub Reaches : List ℕ → ℕ → ℕ → Type 0
Reaches xs from left = (from ≤ length xs) × (sums xs from + left < sums xs (length xs))

-- xs are sizes: `left` beyond those before `from` is `rest` beyond those before i, within the size of i
pub record Within (xs : List ℕ) (from left i rest : ℕ) : Type 0 where
  pub inside : i < length xs
  pub same : sums xs i + rest ≡ sums xs from + left
  pub here : rest < slice_index xs i
