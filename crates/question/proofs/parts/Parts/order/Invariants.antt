use Rattle.question.proofs.parts.Parts.order.Given as goal
use Rattle.question.specs.Shorts.{listed}
use Rattle.std.proofs.Common.{◌≡◌, take}
use Rattle.theory.specs.Tidying.{firsts, all_terms}

abbrev pub invariant-loop-a : goal.invariant-loop-a
invariant-loop-a l = listed l.seen ≡ firsts (all_terms (take l.a-index l.a-items)) (listed l.initial.seen)
