use Rattle.question.proofs.Testing.{decided, not_decided, tested}
use Rattle.question.proofs.asked.Question.test.Goals as goal
use Rattle.question.specs.Asked.{out_of_range}

pub returns-then-not-in_range : goal.returns-then-not-in_range
returns-then-not-in_range c = out_of_range (not_decided c.if-not-in_range.ensures)

pub returns : goal.returns
returns c = tested _ _ (decided c.if-not-in_range.ensures) c.record.ensures
