use Rattle.question.proofs.Exact.{merges_all}
use Rattle.question.proofs.merging.merge.Goals as goal
use Rattle.std.proofs.Common.{rules}

pub returns-in-IsIn-IsIn-clause-exact : goal.returns-in-IsIn-IsIn-clause-exact
returns-in-IsIn-IsIn-clause-exact c = merges_all _ _ _ (search rules)

pub returns-in-Joins-Joins-clause-exact : goal.returns-in-Joins-Joins-clause-exact
returns-in-Joins-Joins-clause-exact c = merges_all _ _ _ (search rules)
