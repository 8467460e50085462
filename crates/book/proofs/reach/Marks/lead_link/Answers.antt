use Rattle.book.proofs.Spreading.{led_turned}
use Rattle.book.proofs.reach.Marks.lead_link.Goals as goal

pub returns : goal.returns
returns c =
    led_turned c.args.d c.args.e c.turn-back.result c.turn-wide.result c.turn-back.ensures c.turn-wide.ensures
    c.lead-any.ensures c.lead-any-2.ensures c.lead-any-3.ensures c.lead-any-4.ensures
