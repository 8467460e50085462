use Rattle.book.proofs.closure.Closure.spread_all.Given as goal
use Rattle.book.specs.Growth.{EmptyKnownBelow, Went, tables}
use Rattle.std.proofs.Common.{◌≡◌}

abbrev pub invariant-loop-number : goal.invariant-loop-number
invariant-loop-number l = Went (λ f _. f ≡ l.family) (EmptyKnownBelow l.family l.number) l.any (tables l.initial.self) (tables l.self)
