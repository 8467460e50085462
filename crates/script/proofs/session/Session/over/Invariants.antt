use Rattle.std.proofs.Common.{◌≡◌, IfSome}
use Rattle.std.specs.Slice.Iter.{iter_rest}
use Rattle.script.proofs.Onwards.{left}
use Rattle.script.specs.Offers.{StopOffered}
use Rattle.script.specs.Sections.{StopsIn}
use Rattle.script.proofs.session.Session.over.Given as goal

abbrev pub invariant-loop-stop : goal.invariant-loop-stop
invariant-loop-stop g l =
    StopsIn (iter_rest l.fn.self.lines) (iter_rest l.self.lines) l.stop × (l.self.report.offer ≡ l.fn.self.report.offer) × IfSome l.stop (StopOffered l.fn.self.report.offer)

abbrev pub decreases-loop-stop : goal.decreases-loop-stop
decreases-loop-stop g l = left (iter_rest l.self.lines) l.stop
