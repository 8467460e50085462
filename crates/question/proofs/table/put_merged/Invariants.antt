use Rattle.question.proofs.table.put_merged.Given as goal
use Rattle.question.specs.Growth.{Below, ByLater, ByMerge, Filled}
use Rattle.question.specs.Parts.{of_parts}

abbrev pub invariant-loop-i : goal.invariant-loop-i
invariant-loop-i l = Filled (Below (λ i. ByLater (of_parts l.question) i) l.i) l.initial.table l.table

abbrev pub invariant-loop-j : goal.invariant-loop-j
invariant-loop-j l = Filled (Below (λ j. ByMerge (of_parts l.question) l.i j) l.j) l.initial.table l.table
