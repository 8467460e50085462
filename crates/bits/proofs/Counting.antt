-- How many bits of a table are not set: with more bits set, fewer are not.
use Rattle.std.proofs.Common.{◌≡◌, ℕ, zero, suc, ◌*◌, ◌<◌, ◌≤◌, Bool, true, false, cond, List, length, sym, refl, ◌∙◌, subst, inl, inr, arith}
use Rattle.bits.specs.Words.{Marked, bit, misses, unset}
use Rattle.std.proofs.lemmas.Bool.{cases_eq, false≢true}

digit_le : (x y : Bool) → (x ≡ true → y ≡ true) → cond y 0 1 ≤ cond x 0 1
digit_le true true f = omega arith
digit_le true false f = absurd (false≢true (f refl))
digit_le false true f = omega arith
digit_le false false f = omega arith

digit_lt : (x y : Bool) → y ≡ true → x ≡ false → cond y 0 1 < cond x 0 1
digit_lt false true h f = omega arith
digit_lt true y h f = absurd (false≢true (sym f))
digit_lt false false h f = absurd (false≢true h)

module _ (p q : ℕ → Bool) where
  misses_le : (n : ℕ) → ((m : ℕ) → m < n → p m ≡ true → q m ≡ true) → misses q n ≤ misses p n
  unfolding misses
  misses_le zero f = omega arith
  misses_le (suc n) f = omega (arith, misses_le n (λ m h. f m (omega arith)), digit_le (p n) (q n) (f n (omega arith)))

  misses_lt : (n : ℕ) → ((m : ℕ) → m < n → p m ≡ true → q m ≡ true) → (m : ℕ) → m < n → q m ≡ true → p m ≡ false → misses q n < misses p n
  unfolding misses
  misses_lt zero f m h y g = absurd (omega arith)
  misses_lt (suc n) f m h y g =
      elim (cases_eq m n) [
        | inl e ↦
            let less : cond (q n) 0 1 < cond (p n) 0 1 =
            digit_lt (p n) (q n) (subst (λ (k : ℕ). q k ≡ true) e y) (subst (λ (k : ℕ). p k ≡ false) e g) in
            omega (arith, misses_le n (λ j k. f j (omega arith)))
        | inr ne ↦ omega (arith, misses_lt n (λ j k. f j (omega arith)) m (omega arith) y g, digit_le (p n) (q n) (f n (omega arith)))
      ]

-- a bit that is set leaves no more bits that are not, and one fewer where it was not set
module _ {m : ℕ} {s t : List ℕ} (marked : Marked m s t) where
  kept_bit : (k : ℕ) → k < 64 * length s → bit s k ≡ true → bit t k ≡ true
  kept_bit k h e =
      elim (cases_eq k m) [
        | inl same ↦ rw same (marked.here (rw same at h))
        | inr other ↦ marked.others k other ∙ e
      ]

  pub marked_le : unset t ≤ unset s
  unfolding unset
  marked_le = rw marked.kept (misses_le (bit s) (bit t) (64 * length s) kept_bit)

  pub marked_lt : m < 64 * length s → bit s m ≡ false → unset t < unset s
  unfolding unset
  marked_lt h off = rw marked.kept (misses_lt (bit s) (bit t) (64 * length s) kept_bit m h (marked.here h) off)
