use Rattle.book.proofs.Applying.{within_turned}
use Rattle.book.proofs.closure.Closure.apply_link_within.Goals as goal

pub returns : goal.returns
returns c =
    within_turned c.args.d c.args.e c.turn-back.result c.turn-wide.result c.requires.0 c.requires.1 c.turn-back.ensures c.turn-wide.ensures
    c.narrow-any.ensures c.narrow-any-2.ensures c.narrow-any-3.ensures c.narrow-any-4.ensures
