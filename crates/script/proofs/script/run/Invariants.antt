use Rattle.std.proofs.Common.{◌≡◌}
use Rattle.std.specs.Slice.Iter.{iter_rest}
use Rattle.script.proofs.Onwards.{left}
use Rattle.script.proofs.script.run.Given as goal

abbrev pub invariant-loop-stop : goal.invariant-loop-stop
invariant-loop-stop l = l.session.report.offer ≡ l.fn.offer

abbrev pub decreases-loop-stop : goal.decreases-loop-stop
decreases-loop-stop l = left (iter_rest l.session.lines) l.stop
