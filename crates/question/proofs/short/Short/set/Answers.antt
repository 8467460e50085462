use Rattle.question.proofs.Shorts.{length_listed}
use Rattle.question.proofs.short.Short.set.Goals as goal
use lib.Seq.{take-set-lt}
use Rattle.std.proofs.Common.{arith}

pub returns : goal.returns
returns g c = take-set-lt c.args.self.now.count c.args.self.now.items c.args.i c.args.x (omega (arith, length_listed c.args.self.now))
