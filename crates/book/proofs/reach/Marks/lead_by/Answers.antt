use Rattle.book.proofs.Steps.{adds_like}
use Rattle.book.proofs.reach.Marks.lead_by.Goals as goal
use Rattle.book.specs.Reach.{class_step}
use Rattle.theory.specs.Reaching.{by_rule}

pub returns-in-Within : goal.returns-in-Within
returns-in-Within c = rw c.in-Within.is (adds_like (λ x m. class_step (by_rule m)) (λ i. i) c.lead.ensures)
