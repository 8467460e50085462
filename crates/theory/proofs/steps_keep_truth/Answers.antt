use Rattle.theory.proofs.Soundness.{step_back}
use Rattle.theory.proofs.steps_keep_truth.Goals as goal
use Rattle.theory.specs.Worlds.{shape}

pub returns : goal.returns
returns c rules w keeps p r step row h = step_back (shape w) rules keeps step row h
