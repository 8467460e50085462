use Rattle.std.proofs.Common.{◌<◌, length, arith}
use Rattle.question.proofs.short.Short.push.Goals as goal
use Rattle.std.proofs.lemmas.List.{take_more_set}

pub returns : goal.returns
returns g c =
    let h : c.args.self.now.count < length c.args.self.now.items = omega arith in
    take_more_set c.args.self.now.items c.args.self.now.count c.args.x h
