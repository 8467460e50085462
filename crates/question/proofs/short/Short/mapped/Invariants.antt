use Rattle.question.proofs.short.Short.mapped.Given as goal
use Rattle.question.specs.Shorts.{Computes, listed}
use Rattle.std.proofs.Common.{◌≡◌, length, map, take}

abbrev pub invariant-loop-x : goal.invariant-loop-x
invariant-loop-x g l =
    (length (listed l.made) ≡ l.x-index)
    × ((h : _) → Computes (goal.F-pre g l.f) (goal.F-post g l.f) h → listed l.made ≡ map h (take l.x-index l.xs))
