use Rattle.question.proofs.Tidied.{round_is}
use Rattle.question.proofs.parts.Parts.round.Goals as goal
use Rattle.question.specs.Shorts.{listed}
use Rattle.std.proofs.Common.{rules}
use Rattle.theory.specs.Tidying.{all_terms, lone, opened}

pub returns : goal.returns
returns c =
    round_is _ _ _ _ c.once_each.ensures (c.on_atoms.ensures (opened (lone (listed c.args.self.head) (all_terms (listed c.once_each.result)))) (λ t r can is. search rules))
