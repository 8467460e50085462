use Rattle.theory.proofs.Stable.{fixed, only_fixed}
use Rattle.theory.proofs.tidying_rests.Goals as goal

pub returns : goal.returns
returns c q = record { rests = fixed q; only = only_fixed q }
