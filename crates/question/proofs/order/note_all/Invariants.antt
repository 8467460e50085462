use Rattle.question.proofs.order.note_all.Given as goal
use Rattle.question.specs.Shorts.{listed}
use Rattle.std.proofs.Common.{◌≡◌, take}
use Rattle.theory.specs.Tidying.{firsts}

abbrev pub invariant-loop-t : goal.invariant-loop-t
invariant-loop-t l = listed l.seen ≡ firsts (take l.t-index l.ts) (listed l.initial.seen)
