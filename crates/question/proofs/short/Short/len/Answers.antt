use Rattle.question.proofs.Shorts.{length_listed}
use Rattle.question.proofs.short.Short.len.Goals as goal
use Rattle.std.proofs.Common.{sym}

pub returns : goal.returns
returns g c = (sym (length_listed c.args.self.now), c.args.self.now.few)
