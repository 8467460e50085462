use Rattle.std.proofs.Common.{refl}
use Rattle.book.proofs.Growing.{excluded}
use Rattle.book.proofs.Steps.{adds_given}
use Rattle.book.proofs.closure.Closure.spread_link.Goals as goal
use Rattle.book.specs.Growth.{LinkOn, tables}
use Rattle.theory.specs.Closure.{link_empty, links}
use Rattle.vocabulary.specs.declared.basic.Basic.TheVariants.{Start}

pub returns-then-has : goal.returns-then-has
returns-then-has c =
    let d = c.args.d in
    let t = tables c.args.self.now in
    let pair : LinkOn t d d = record { first = c.requires; second = c.requires; on = c.if-has.ensures.0 refl } in
    adds_given (λ x _ old. link_empty (old (links d d) pair)) (λ o _. o)
    (excluded (Start d) (Start d) c.requires c.requires c.exclude.ensures t.1)
