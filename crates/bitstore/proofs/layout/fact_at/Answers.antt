use Rattle.std.proofs.Common.{◌≡◌, ℕ, ◌-◌, ◌*◌, ◌/◌, ◌<◌, sym, mul_assoc, arith}
use Rattle.std.proofs.lemmas.Nat.{div_below}
use Rattle.bitstore.proofs.Places.{class_at, link_at}
use Rattle.bitstore.proofs.layout.fact_at.Goals as goal

pub overflow_cast-result : goal.overflow_cast-result
overflow_cast-result c = omega (arith, div_below c.args.bit c.args.names 64 (omega arith) c.if-bit-classes.true)

pub returns-then-bit-classes : goal.returns-then-bit-classes
returns-then-bit-classes c = sym (class_at c.args.names c.args.bit c.if-bit-classes.true)

pub overflow_cast-result-2 : goal.overflow_cast-result-2
overflow_cast-result-2 c =
    let n : ℕ = c.args.names in
    let y : ℕ = c.args.bit - 64 * n in
    let e : 32 * (n * n) ≡ 32 * n * n = sym (mul_assoc 32 n n) in
    let low : y < 32 * n * n = omega arith in
    let row : y / n < 32 * n = div_below y n (32 * n) (omega arith) low in
    omega (arith, div_below (y / n) n 32 (omega arith) row)

pub returns : goal.returns
returns c = sym (link_at c.args.names c.args.bit c.if-bit-classes.false)
