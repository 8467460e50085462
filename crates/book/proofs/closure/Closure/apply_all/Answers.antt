use Rattle.book.proofs.Applying.{done_turn}
use Rattle.book.proofs.Listing.{fit_at}
use Rattle.book.proofs.closure.Closure.apply_all.Goals as goal

pub apply-any-requires : goal.apply-any-requires
apply-any-requires c = fit_at c.args.rules.all.now c.args.rules.fit c.loop-rule.rule-index _ c.loop-rule-test.true

pub loop-rule-preserved : goal.loop-rule-preserved
loop-rule-preserved c = done_turn c.args.rules.all.now c.loop-rule.rule-index _ c.loop-rule-test.true c.loop-rule.invariant c.apply-any.ensures
