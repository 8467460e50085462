use Rattle.theory.proofs.Tidying.{tidy_true}
use Rattle.theory.proofs.tidying_keeps_truth.Goals as goal
use Rattle.theory.specs.Questions.{stored}
use Rattle.theory.specs.Worlds.{shape}

pub returns : goal.returns
returns c q row = record { worlds = λ w. tidy_true (shape w) q row; facts = λ facts. tidy_true (stored facts) q row }
