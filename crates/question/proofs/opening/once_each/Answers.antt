use Rattle.question.proofs.Once.{new_added, once_onto, once_turn, once_room, once_end}
use Rattle.question.proofs.opening.once_each.Goals as goal
use Rattle.question.specs.Shorts.{listed}
use Rattle.vocabulary.specs.declared.questions.Atom.{Atom}
use Rattle.std.proofs.Common.{List, length, ap, ◌∙◌, arith}

pub loop-a-init : goal.loop-a-init
loop-a-init c = (ap (λ (ys : List Atom). once_onto ys c.all-a-items.result.now) c.empty-made.ensures, omega (arith, ap length c.empty-made.ensures))

pub loop-a-preserved : goal.loop-a-preserved
loop-a-preserved c =
    let e = c.push_new.ensures ∙ new_added (listed c.loop-a.made) _ in
    (once_turn _ _ _ _ _ _ c.loop-a-test.true e c.loop-a.invariant.0, omega (arith, once_room _ _ _ e))

pub returns : goal.returns
returns c = once_end _ _ _ _ c.all-a-items.ensures.same c.loop-a-test.false c.loop-a.invariant.0
