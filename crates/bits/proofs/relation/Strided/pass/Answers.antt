use Rattle.bits.proofs.Inheriting.{grows_none, inherits_one}
use Rattle.bits.proofs.relation.Strided.pass.Goals as goal
use Rattle.bits.specs.Relations.{base}
use Rattle.std.proofs.lemmas.Bool.{false≢true}
use Rattle.std.proofs.Common.{refl}

pub returns-then-has : goal.returns-then-has
returns-then-has c =
    let o = c.if-has.ensures.0 refl in
    record { stride = c.add.ensures.stride; grows = inherits_one o (λ v h l _. h l o.column) c.add.ensures.grows }

pub returns-else-has : goal.returns-else-has
returns-else-has c = record {
  stride = refl;
  grows = grows_none (λ x y h. base h) (λ l o. absurd (false≢true (c.if-has.ensures.1 o)));
}
