use Rattle.std.proofs.Common.{◌≡◌, length}
use Rattle.std.specs.Slice.Iter.{iter_rest}
use Rattle.script.proofs.Onwards.{Onward}
use Rattle.script.proofs.session.Session.section.Given as goal

abbrev pub invariant-loop-line : goal.invariant-loop-line
invariant-loop-line g l = Onward (iter_rest l.fn.self.lines) (iter_rest l.self.lines) × (l.self.report.offer ≡ l.fn.self.report.offer)

abbrev pub decreases-loop-line : goal.decreases-loop-line
decreases-loop-line g l = length (iter_rest l.self.lines)
