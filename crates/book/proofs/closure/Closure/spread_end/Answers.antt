use Rattle.std.proofs.Common.{refl, subst}
use Rattle.book.proofs.Growing.{excluded}
use Rattle.book.proofs.Steps.{adds_given}
use Rattle.book.proofs.closure.Closure.spread_end.Goals as goal
use Rattle.book.specs.Growth.{ClassOn, tables}
use Rattle.theory.specs.Closure.{classes, other_end}
use Rattle.vocabulary.proofs.Codes.{turn_fits}
use Rattle.vocabulary.specs.Codes.{basic_code, turn}
use Rattle.vocabulary.specs.declared.basic.Basic.TheVariants.{Start}
use Rattle.vocabulary.specs.declared.basic.Directed.{Directed}
use Rattle.bits.specs.Relations.{On}

pub returns-then-has : goal.returns-then-has
returns-then-has c =
    let d = c.args.d in
    let t = tables c.args.self.now in
    let fits = turn_fits d c.requires in
    let end : ClassOn t (Start (turn d)) (Start (turn d)) = record {
      first = fits;
      second = fits;
      on = subst (λ (f : Directed). On 2 t.0 (basic_code (Start f)) (basic_code (Start f))) c.turn.ensures (c.if-has.ensures.0 refl);
    } in
    adds_given (λ x _ old. other_end (old (classes (Start (turn d)) (Start (turn d))) end)) (λ o _. o)
    (excluded (Start d) (Start d) c.requires c.requires c.exclude.ensures t.1)
