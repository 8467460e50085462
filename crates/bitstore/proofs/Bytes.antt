-- A bit of a table of bytes, and the table after one bit is turned over.
use Rattle.std.proofs.Common.{◌≡◌, ℕ, zero, suc, ◌*◌, ◌/◌, ◌%◌, ◌^◌, ◌<◌, Bool, true, false, cond, not, eqb, ◌≢◌, List, length, get_or, set, replicate, sym, refl, ap, ◌∙◌, inl, inr, arith}
use Rattle.std.proofs.lemmas.Nat.{one_shl, xor_shr, xor_mod}
use Rattle.std.proofs.lemmas.List.{get_or-set_same, get_or-set_other, get_or_past, get_or-replicate, length-replicate}
use Rattle.std.proofs.lemmas.Bool.{cases_eq, cases_lt}
use Rattle.std.specs.Int.Bits.{bit_xor}
use Rattle.bits.proofs.Words.{bit_one_other, bit_one_same, bit_zero}
use Rattle.bits.specs.Words.{bit_of}
use Rattle.bitstore.specs.Marks.{bit_at, OneMore}

xor_digit : (x y : ℕ) → x < 2 → y < 2 → eqb (bit_xor x y) 1 ≡ cond (eqb y 1) (not (eqb x 1)) (eqb x 1)
xor_digit zero zero h k = refl
xor_digit zero (suc zero) h k = refl
xor_digit (suc zero) zero h k = refl
xor_digit (suc zero) (suc zero) h k = refl
xor_digit (suc (suc x)) y h k = absurd (omega arith)
xor_digit zero (suc (suc y)) h k = absurd (omega arith)
xor_digit (suc zero) (suc (suc y)) h k = absurd (omega arith)

xor_bit : (x y j : ℕ) → bit_of (bit_xor x y) j ≡ cond (bit_of y j) (not (bit_of x j)) (bit_of x j)
unfolding bit_of
xor_bit x y j =
    ap (λ (n : ℕ). eqb (n % 2) 1) (xor_shr x y j)
    ∙ ap (λ (n : ℕ). eqb n 1) (xor_mod (x / 2 ^ j) (y / 2 ^ j) 1)
    ∙ xor_digit (x / 2 ^ j % 2) (y / 2 ^ j % 2) (omega arith) (omega arith)

-- the byte that `w ^ (1 << j)` is
abbrev pub turned : ℕ → ℕ → ℕ
turned w j = bit_xor w ((1 * 2 ^ j) % 2 ^ 8)

bit_turned : (w j m : ℕ) → j < 8 → bit_of (turned w j) m ≡ cond (bit_of (2 ^ j) m) (not (bit_of w m)) (bit_of w m)
bit_turned w j m h = xor_bit w ((1 * 2 ^ j) % 2 ^ 8) m ∙ ap (λ (n : ℕ). cond (bit_of n m) (not (bit_of w m)) (bit_of w m)) (one_shl j 8 h)

module _ (t : List ℕ) (k : ℕ) where
  abbrev pub flipped : List ℕ
  flipped = set t (k / 8) (turned (get_or t (k / 8) 0) (k % 8))

  flip_here : k / 8 < length t → bit_at flipped k ≡ not (bit_at t k)
  unfolding bit_at
  flip_here h =
      ap (λ (w : ℕ). bit_of w (k % 8)) (get_or-set_same t (k / 8) (turned (get_or t (k / 8) 0) (k % 8)) 0 h)
      ∙ bit_turned (get_or t (k / 8) 0) (k % 8) (k % 8) (omega arith)
      ∙ ap (λ (x : Bool). cond x (not (bit_of (get_or t (k / 8) 0) (k % 8))) (bit_of (get_or t (k / 8) 0) (k % 8))) (bit_one_same (k % 8))

  flip_others : k / 8 < length t → (x : ℕ) → (x ≡ k → ⊥) → bit_at flipped x ≡ bit_at t x
  unfolding bit_at
  flip_others h x ne =
      elim (cases_eq (x / 8) (k / 8)) [
        | inr other ↦ ap (λ (w : ℕ). bit_of w (x % 8)) (get_or-set_other t (k / 8) (x / 8) (turned (get_or t (k / 8) 0) (k % 8)) 0 other)
        | inl e ↦
            let apart : k % 8 ≢ x % 8 = λ q. ne (omega arith) in
            let b = bit_of (get_or t (k / 8) 0) (x % 8) in
            ap (λ (n : ℕ). bit_of (get_or flipped n 0) (x % 8)) e
            ∙ ap (λ (w : ℕ). bit_of w (x % 8)) (get_or-set_same t (k / 8) (turned (get_or t (k / 8) 0) (k % 8)) 0 h)
            ∙ bit_turned (get_or t (k / 8) 0) (k % 8) (x % 8) (omega arith)
            ∙ ap (λ (v : Bool). cond v (not b) b) (bit_one_other (k % 8) (x % 8) apart)
            ∙ ap (λ (n : ℕ). bit_of (get_or t n 0) (x % 8)) (sym e)
      ]

  -- a clear bit turned over is set, and a set one is cleared
  pub flip_sets : k / 8 < length t → bit_at t k ≡ false → OneMore k (bit_at t) (bit_at flipped)
  flip_sets h e = record { off = e; on = flip_here h ∙ ap not e; others = λ x ne. flip_others h x ne }

  pub flip_clears : k / 8 < length t → bit_at t k ≡ true → OneMore k (bit_at flipped) (bit_at t)
  flip_clears h e = record { off = flip_here h ∙ ap not e; on = e; others = λ x ne. sym (flip_others h x ne) }

-- a table of zeros has no bit set
pub bit_zeros : (n k : ℕ) → bit_at (replicate n 0) k ≡ false
unfolding bit_at
bit_zeros n k =
    elim (cases_lt (k / 8) n) [
      | inl l ↦ ap (λ (w : ℕ). bit_of w (k % 8)) (get_or-replicate n (k / 8) 0 0 l) ∙ bit_zero (k % 8)
      | inr l ↦ ap (λ (w : ℕ). bit_of w (k % 8)) (get_or_past (replicate n 0) (k / 8) 0 (simp length-replicate l)) ∙ bit_zero (k % 8)
    ]
