use Rattle.book.proofs.Spreading.{led_turn}
use Rattle.book.proofs.Listing.{fit_at}
use Rattle.book.proofs.reach.Marks.lead_all.Goals as goal

pub lead_by-any-requires : goal.lead_by-any-requires
lead_by-any-requires c = fit_at c.args.rules.all.now c.args.rules.fit c.loop-rule.rule-index _ c.loop-rule-test.true

pub loop-rule-preserved : goal.loop-rule-preserved
loop-rule-preserved c = led_turn c.args.rules.all.now c.loop-rule.rule-index _ c.loop-rule-test.true c.loop-rule.invariant c.lead_by-any.ensures
