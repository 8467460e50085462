use Rattle.question.proofs.parts.Parts.rounded.Given as goal
use Rattle.question.specs.Parts.{of_parts}
use Rattle.theory.specs.Tidying.{rounds}
use Rattle.std.proofs.Common.{◌≡◌}

abbrev pub invariant-loop-i : goal.invariant-loop-i
invariant-loop-i l = of_parts l.made ≡ rounds l._i (of_parts l.initial.made)
