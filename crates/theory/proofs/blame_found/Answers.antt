use Rattle.theory.proofs.Blame.{blame}
use Rattle.theory.proofs.blame_found.Goals as goal

pub returns : goal.returns
returns c = blame
