use Rattle.question.proofs.Shorts.{length_listed, moved_down}
use Rattle.question.proofs.short.Short.remove.Goals as goal
use Rattle.std.proofs.Common.{◌-◌, take, ap, ◌∙◌, arith}

pub returns : goal.returns
returns g c =
    let s = c.args.self.now in
    ap (take (s.count - 1)) c.copy_within.ensures.after ∙ moved_down s.items c.args.j s.count (omega (arith, length_listed s)) (omega (arith, s.few, s.full))
