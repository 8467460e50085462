-- Bits of words and of tables of words.
use Rattle.std.specs.Prelude.{◌≡◌, ℕ, zero, suc, ◌+◌, ◌*◌, ◌/◌, ◌%◌, ◌^◌, ◌<◌, Bool, true, cond, ◌≢◌, List, length, ◌==◌, slice_index}

-- bit j of a word, lowest bit 0
unfoldable pub bit_of : ℕ → ℕ → Bool
bit_of w j = w / 2 ^ j % 2 == 1

-- the word at a place, 0 past the end
abbrev pub word : List ℕ → ℕ → ℕ
word t i = slice_index t i

-- bit m of a table: bit m % 64 of word m / 64
unfoldable pub bit : List ℕ → ℕ → Bool
bit t m = bit_of (word t (m / 64)) (m % 64)

-- t is s with bit m set
pub record Marked (m : ℕ) (s t : List ℕ) : Type 0 where
  pub kept : length t ≡ length s
  pub here : m < 64 * length s → bit t m ≡ true
  pub others : (k : ℕ) → k ≢ m → bit t k ≡ bit s k

-- how many of the numbers below n fail a test
unfoldable pub misses : (ℕ → Bool) → ℕ → ℕ
misses p zero = zero
misses p (suc n) = misses p n + cond (p n) 0 1

-- how many bits of a table are not set
unfoldable pub unset : List ℕ → ℕ
unset t = misses (bit t) (64 * length t)
