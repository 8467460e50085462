use Rattle.std.proofs.Common.{◌∙◌}
use Rattle.script.proofs.Onwards.{one, onward}
use Rattle.script.proofs.session.Session.section.Goals as goal

pub loop-line-preserved-in-Ok-None : goal.loop-line-preserved-in-Ok-None
loop-line-preserved-in-Ok-None g c =
    (onward _ _ (one _ _ _ _ _ c.loop-line.invariant.0 c.in-Some.ensures.steps c.answer.ensures.lines), c.answer.ensures.offer.0 ∙ c.loop-line.invariant.1)

pub returns-in-Ok-Some-clause-goes : goal.returns-in-Ok-Some-clause-goes
returns-in-Ok-Some-clause-goes g c = one _ _ _ _ _ c.loop-line.invariant.0 c.in-Some.ensures.steps c.answer.ensures.lines

pub loop-line-preserved : goal.loop-line-preserved
loop-line-preserved g c =
    (onward _ _ (one _ _ _ _ _ c.loop-line.invariant.0 c.in-Some.ensures.steps c.answer.ensures.lines), c.refuse.ensures ∙ c.answer.ensures.offer.0 ∙ c.loop-line.invariant.1)
