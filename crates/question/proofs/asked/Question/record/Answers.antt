use Rattle.question.proofs.Testing.{decided, not_decided}
use Rattle.question.proofs.asked.Question.record.Goals as goal
use Rattle.question.specs.Asked.{no_shape, too_high, unbound}

pub returns-then-not-shaped : goal.returns-then-not-shaped
returns-then-not-shaped c = no_shape (not_decided c.if-not-shaped.ensures)

pub returns-then-not-numbered : goal.returns-then-not-numbered
returns-then-not-numbered c = too_high (decided c.if-not-shaped.ensures) (not_decided c.if-not-numbered.ensures)

pub returns-then-not-bound : goal.returns-then-not-bound
returns-then-not-bound c = unbound (decided c.if-not-shaped.ensures) (decided c.if-not-numbered.ensures) (not_decided c.if-not-bound.ensures)
