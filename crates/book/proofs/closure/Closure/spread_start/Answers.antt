use Rattle.std.proofs.Common.{sym, refl, subst}
use Rattle.book.proofs.Growing.{excluded_link}
use Rattle.book.proofs.Steps.{adds_given}
use Rattle.book.proofs.closure.Closure.spread_start.Goals as goal
use Rattle.book.specs.Growth.{ClassOn, tables}
use Rattle.theory.specs.Closure.{classes, empty_link}
use Rattle.vocabulary.specs.Families.{LinksToo}
use Rattle.vocabulary.specs.declared.basic.Basic.TheVariants.{Start}

pub returns-then-has : goal.returns-then-has
returns-then-has c =
    let d = c.args.d in
    let t = tables c.args.self.now in
    let start : ClassOn t (Start d) (Start d) = record { first = c.requires; second = c.requires; on = c.if-has.ensures.0 refl } in
    adds_given (λ x same old. empty_link (subst LinksToo (sym same) (c.if-links_too.ensures.0 refl)) (old (classes (Start d) (Start d)) start)) (λ o _ _. o)
    (excluded_link d d c.requires c.requires c.exclude.ensures t.0)
