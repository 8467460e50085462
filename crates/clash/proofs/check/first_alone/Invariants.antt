use Rattle.std.proofs.Common.{ℕ, ◌<◌, length}
use Rattle.clash.proofs.check.first_alone.Given as goal
use Rattle.clash.specs.Searches.{CalmAt}

abbrev pub invariant-loop-f : goal.invariant-loop-f
invariant-loop-f g l = (k : ℕ) → k < length l.yielded → CalmAt l.book.family l.book.rules.now (g.S.Source.facts l.source) k k
