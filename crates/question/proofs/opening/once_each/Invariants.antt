use Rattle.std.proofs.Common.{◌≡◌, ◌≤◌, [], length, drop}
use Rattle.question.proofs.Once.{once_onto}
use Rattle.question.proofs.opening.once_each.Given as goal
use Rattle.question.specs.Shorts.{listed}

abbrev pub invariant-loop-a : goal.invariant-loop-a
invariant-loop-a l = (once_onto (listed l.made) (drop l.a-index l.a-items) ≡ once_onto [] l.a-items) × (length (listed l.made) ≤ l.a-index)
