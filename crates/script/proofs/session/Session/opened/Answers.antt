use Rattle.script.proofs.Onwards.{again_ok}
use Rattle.script.proofs.session.Session.opened.Goals as goal

pub returns-clause-goes : goal.returns-clause-goes
returns-clause-goes c = again_ok _ _ _ _ _ c.over-2.result c.in_ok-stop.ensures.goes c.in-Some-Seal.is c.over-2.ensures.goes
