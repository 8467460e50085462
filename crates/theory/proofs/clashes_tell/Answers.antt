use Rattle.theory.proofs.Canonical.{site}
use Rattle.theory.proofs.clashes_tell.Goals as goal

pub returns : goal.returns
returns c family rules lawful facts fit = site family rules facts lawful fit
