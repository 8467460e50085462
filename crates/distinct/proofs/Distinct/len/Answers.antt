use Rattle.distinct.proofs.Distinct.len.Goals as goal
use Rattle.std.proofs.Common.{sym, ◌∙◌, length-take}

pub returns : goal.returns
returns g c = c.min.ensures ∙ sym (length-take c.args.self.now.len c.args.self.now.places.now)
