use Rattle.question.proofs.short.Short.empty.Goals as goal
use lib.ListN.{length-replicate}
use Rattle.std.proofs.Common.{arith}

pub invariant_of-result : goal.invariant_of-result
invariant_of-result g c = record { few = omega arith; full = length-replicate g.row.N _ }
