use Rattle.book.proofs.Applying.{known_turn}
use Rattle.book.proofs.closure.Closure.spread_all.Goals as goal

pub loop-number-preserved : goal.loop-number-preserved
loop-number-preserved c = known_turn c.args.family c.loop-number.number c.loop-number.invariant c.spread-any.ensures c.spread-any-in-loop-number.ensures
