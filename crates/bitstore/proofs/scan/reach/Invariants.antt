use Rattle.std.proofs.Common.{◌≡◌, ℕ, ◌+◌, map}
use Rattle.std.specs.Fn.{FnReturnsAt}
use Rattle.bitstore.specs.Marks.{Measures, sums}
use Rattle.bitstore.proofs.scan.reach.Given as goal

abbrev pub invariant-loop-i : goal.invariant-loop-i
invariant-loop-i g l =
    (measure : g.row.T.Denot → ℕ) → Measures (FnReturnsAt g.F.Fn l.size) measure l.items
    → sums (map measure l.items) (l.from + l.i) + l.left ≡ sums (map measure l.items) l.from + l.fn.left
