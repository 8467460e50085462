use Rattle.theory.proofs.Closed.{excluded}
use Rattle.theory.proofs.exclusions_decided.Goals as goal

pub returns : goal.returns
returns c = excluded
