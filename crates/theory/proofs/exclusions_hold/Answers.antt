use Rattle.theory.proofs.Exclusions.{disjoint}
use Rattle.theory.proofs.exclusions_hold.Goals as goal
use Rattle.theory.specs.Worlds.{shape}

pub returns : goal.returns
returns c family rules e h w keeps = disjoint rules (shape w) keeps h
