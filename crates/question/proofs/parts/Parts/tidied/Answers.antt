use Rattle.question.proofs.Ordering.{placed_in_head, placed_in_body}
use Rattle.question.proofs.Tidied.{tidied_is}
use Rattle.question.proofs.parts.Parts.tidied.Goals as goal

pub numbered-requires-clause-head : goal.numbered-requires-clause-head
numbered-requires-clause-head c = placed_in_head _ _ _ c.order.ensures

pub numbered-requires-clause-atoms : goal.numbered-requires-clause-atoms
numbered-requires-clause-atoms c = placed_in_body _ _ _ c.order.ensures

pub returns : goal.returns
returns c = tidied_is _ _ _ _ c.rounded-rounded.ensures c.order.ensures c.numbered.ensures
