-- A bit of `x | y`, of `1 << m`, and of a table after one bit is set.
use Rattle.std.proofs.Common.{◌≡◌, ℕ, zero, suc, ◌+◌, ◌-◌, ◌*◌, ◌/◌, ◌%◌, ◌^◌, ◌<◌, ◌≤◌, Bool, true, false, ◌||◌, ◌==◌, ◌≢◌, List, length, get_or, set, replicate, sym, refl, ap, ◌∙◌, subst, inl, inr, pow-suc, arith, length-set}
use Rattle.bits.specs.Words.{bit_of, bit, Marked}
use Rattle.std.proofs.lemmas.Nat.{pow-add, pow_below, shl-shr, one_shl, and_mask, or_shr, or_mod}
use Rattle.std.proofs.lemmas.List.{get_or-set_same, get_or-set_other, get_or_past, get_or-replicate, length-replicate}
use Rattle.std.proofs.lemmas.Bool.{cases_order, cases_eq, cases_lt}
use Rattle.std.specs.Int.Bits.{bit_and, bit_or}
use Rattle.std.proofs.Math.Bool.{or-true, or-false}
use Rattle.std.proofs.Math.Nat.{div-eq_of_lt, mul-mod_left, zero-div}

-- ---- one word

-- `(w >> j) & 1 == 1`
pub bit_shr : (w j : ℕ) → (bit_and (w / 2 ^ j) 1 == 1) ≡ bit_of w j
unfolding bit_of
bit_shr w j = ap (λ (x : ℕ). x == 1) (and_mask (w / 2 ^ j) 1)

or_digit : (x y : ℕ) → x < 2 → y < 2 → (bit_or x y == 1) ≡ (x == 1 || y == 1)
or_digit zero zero h k = refl
or_digit zero (suc zero) h k = refl
or_digit (suc zero) zero h k = refl
or_digit (suc zero) (suc zero) h k = refl
or_digit (suc (suc x)) y h k = absurd (omega arith)
or_digit zero (suc (suc y)) h k = absurd (omega arith)
or_digit (suc zero) (suc (suc y)) h k = absurd (omega arith)

pub bit_of_or : (x y j : ℕ) → bit_of (bit_or x y) j ≡ (bit_of x j || bit_of y j)
unfolding bit_of
bit_of_or x y j =
    ap (λ (n : ℕ). n % 2 == 1) (or_shr x y j)
    ∙ ap (λ (n : ℕ). n == 1) (or_mod (x / 2 ^ j) (y / 2 ^ j) 1)
    ∙ or_digit (x / 2 ^ j % 2) (y / 2 ^ j % 2) (omega arith) (omega arith)

pub bit_one_same : (j : ℕ) → bit_of (2 ^ j) j ≡ true
unfolding bit_of
bit_one_same j = ap (λ (n : ℕ). n % 2 == 1) (ap (λ (n : ℕ). n / 2 ^ j) (omega arith) ∙ shl-shr 1 j)

bit_below : (m j : ℕ) → m < j → bit_of (2 ^ m) j ≡ false
unfolding bit_of
bit_below m j h = ap (λ (n : ℕ). n % 2 == 1) (div-eq_of_lt (pow_below m j h))

bit_above : (d j : ℕ) → bit_of (2 ^ (suc d + j)) j ≡ false
unfolding bit_of
bit_above d j =
    ap (λ (n : ℕ). n / 2 ^ j % 2 == 1) (pow-add 2 (suc d) j)
    ∙ ap (λ (n : ℕ). n % 2 == 1) (shl-shr (2 ^ suc d) j)
    ∙ ap (λ (n : ℕ). n % 2 == 1) (pow-suc 2 d)
    ∙ ap (λ (n : ℕ). n == 1) (mul-mod_left (2 ^ d) 2)

pub bit_one_other : (m j : ℕ) → m ≢ j → bit_of (2 ^ m) j ≡ false
bit_one_other m j ne =
    elim (cases_order m j) [
      | inl e ↦ absurd (ne e)
      | inr o ↦ elim o [
        | inl h ↦ bit_below m j h
        | inr h ↦ subst (λ (n : ℕ). bit_of (2 ^ n) j ≡ false) (let e : suc (m - suc j) + j ≡ m = omega arith in e) (bit_above (m - suc j) j)
      ]
    ]

pub bit_zero : (j : ℕ) → bit_of 0 j ≡ false
unfolding bit_of
bit_zero j = ap (λ (n : ℕ). n % 2 == 1) (zero-div (2 ^ j))

-- ---- a table after one bit is set

-- the word that `w | (1 << j)` is
abbrev marked : ℕ → ℕ → ℕ
marked w j = bit_or w ((1 * 2 ^ j) % 2 ^ 64)

bit_marked : (w j m : ℕ) → j < 64 → bit_of (marked w j) m ≡ (bit_of w m || bit_of (2 ^ j) m)
bit_marked w j m h = bit_of_or w ((1 * 2 ^ j) % 2 ^ 64) m ∙ ap (λ (n : ℕ). bit_of w m || bit_of n m) (one_shl j 64 h)

module _ (t : List ℕ) (m : ℕ) (h : m / 64 < length t) where
  abbrev after : List ℕ
  after = set t (m / 64) (marked (get_or t (m / 64) 0) (m % 64))

  after_here : bit after m ≡ true
  unfolding bit
  after_here =
      ap (λ (w : ℕ). bit_of w (m % 64)) (get_or-set_same t (m / 64) (marked (get_or t (m / 64) 0) (m % 64)) 0 h)
      ∙ bit_marked (get_or t (m / 64) 0) (m % 64) (m % 64) (omega arith)
      ∙ ap (λ (x : Bool). bit_of (get_or t (m / 64) 0) (m % 64) || x) (bit_one_same (m % 64))
      ∙ or-true (bit_of (get_or t (m / 64) 0) (m % 64))

  after_others : (k : ℕ) → k ≢ m → bit after k ≡ bit t k
  unfolding bit
  after_others k ne =
      elim (cases_eq (k / 64) (m / 64)) [
        | inr other ↦ ap (λ (w : ℕ). bit_of w (k % 64)) (get_or-set_other t (m / 64) (k / 64) (marked (get_or t (m / 64) 0) (m % 64)) 0 other)
        | inl e ↦
            let apart : m % 64 ≢ k % 64 = λ q. ne (omega arith) in
            ap (λ (n : ℕ). bit_of (get_or after n 0) (k % 64)) e
            ∙ ap (λ (w : ℕ). bit_of w (k % 64)) (get_or-set_same t (m / 64) (marked (get_or t (m / 64) 0) (m % 64)) 0 h)
            ∙ bit_marked (get_or t (m / 64) 0) (m % 64) (k % 64) (omega arith)
            ∙ ap (λ (v : Bool). bit_of (get_or t (m / 64) 0) (k % 64) || v) (bit_one_other (m % 64) (k % 64) apart)
            ∙ or-false (bit_of (get_or t (m / 64) 0) (k % 64))
            ∙ ap (λ (n : ℕ). bit_of (get_or t n 0) (k % 64)) (sym e)
      ]

  pub marked_inside : Marked m t after
  marked_inside = record { kept = length-set t (m / 64) (marked (get_or t (m / 64) 0) (m % 64)); here = λ _. after_here; others = after_others }

pub marked_past : (t : List ℕ) (m : ℕ) → length t ≤ m / 64 → Marked m t t
marked_past t m h = record { kept = refl; here = λ l. absurd (omega arith); others = λ k ne. refl }

-- ---- a table of zeros, and past the end of a table

pub bit_past : (t : List ℕ) (m : ℕ) → length t ≤ m / 64 → bit t m ≡ false
unfolding bit
bit_past t m h = ap (λ (w : ℕ). bit_of w (m % 64)) (get_or_past t (m / 64) 0 h) ∙ bit_zero (m % 64)

pub bit_zeros : (n m : ℕ) → bit (replicate n 0) m ≡ false
unfolding bit
bit_zeros n m =
    elim (cases_lt (m / 64) n) [
      | inl l ↦ ap (λ (w : ℕ). bit_of w (m % 64)) (get_or-replicate n (m / 64) 0 0 l) ∙ bit_zero (m % 64)
      | inr l ↦ bit_past (replicate n 0) m (simp length-replicate l)
    ]
