use Rattle.theory.proofs.Safety.{rewriting_safe}
use Rattle.theory.proofs.safe_kept.Goals as goal

pub returns : goal.returns
returns c rules q safe r w = rewriting_safe rules q safe w
