-- Rows and columns of a table, and what one bit that is set changes of them.
use Rattle.std.proofs.Common.{◌≡◌, ℕ, ◌+◌, ◌*◌, ◌/◌, ◌<◌, ◌≤◌, List, sym, ap, ◌∙◌, ap₂, mul_assoc, mul_comm, arith}
use Rattle.bits.specs.Relations.{pair}
use Rattle.bits.specs.Words.{bit, bit_of, word}
use Rattle.std.proofs.lemmas.Nat.{div-mul-add, mul-add-lt, mul-le}

-- the bit of row a and column b has the number 64 * (stride * a) + b
pub pair_bit : (stride : ℕ) (t : List ℕ) (a b : ℕ) → pair stride t a b ≡ bit t (64 * (stride * a) + b)
unfolding pair bit
pair_bit stride t a b =
    ap₂ (λ (i j : ℕ). bit_of (word t i) j) (let e : stride * a + b / 64 ≡ (64 * (stride * a) + b) / 64 = omega arith in e) (omega arith)

-- a row is 64 * stride long
turned : (stride a : ℕ) → 64 * (stride * a) ≡ a * (64 * stride)
turned stride a = sym (mul_assoc 64 stride a) ∙ mul_comm (64 * stride) a

pub row_of : (stride a b : ℕ) → b < 64 * stride → (64 * (stride * a) + b) / (64 * stride) ≡ a
row_of stride a b h = rw (turned stride a) (div-mul-add a (64 * stride) b h)

pub place_same : (stride a b x y : ℕ) → b < 64 * stride → y < 64 * stride → 64 * (stride * x) + y ≡ 64 * (stride * a) + b → (x ≡ a) × (y ≡ b)
place_same stride a b x y hb hy e =
    let r : x ≡ a = sym (row_of stride x y hy) ∙ ap (λ (m : ℕ). m / (64 * stride)) e ∙ row_of stride a b hb in
    (r, omega (arith, ap (λ (z : ℕ). stride * z) r))

pub place_inside : (stride a b : ℕ) → a < 64 * stride → b < 64 * stride → 64 * (stride * a) + b < 64 * (64 * (stride * stride))
place_inside stride a b ha hb =
    let square : 64 * stride * (64 * stride) ≡ 64 * (64 * (stride * stride)) = omega (arith, turned stride (64 * stride), turned stride stride, mul_assoc 64 stride (64 * stride), mul_assoc stride 64 stride, mul_comm stride 64, mul_assoc 64 stride stride) in
    omega (arith, turned stride a, mul-add-lt a (64 * stride) b (64 * stride) ha hb)

-- each row lies within the table
pub row_inside : (stride a : ℕ) → a < 64 * stride → stride * a + stride ≤ 64 * (stride * stride)
row_inside stride a h = omega (arith, mul-le (a + 1) stride (64 * stride) stride (omega arith) (omega arith), mul_comm stride a, mul_assoc 64 stride stride)
