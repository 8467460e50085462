use Rattle.theory.proofs.Laws.{lawful}
use Rattle.theory.proofs.families_lawful.Goals as goal

pub returns : goal.returns
returns c = lawful
