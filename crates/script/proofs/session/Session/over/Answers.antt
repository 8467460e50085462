use Rattle.std.proofs.Common.{◌∙◌, IfSome, subst}
use Rattle.script.proofs.Onwards.{again}
use Rattle.script.proofs.session.Session.over.Goals as goal
use Rattle.script.specs.Offers.{StopOffered}

pub loop-stop-preserved : goal.loop-stop-preserved
loop-stop-preserved g c =
    let (goes, kept, offered) = c.loop-stop.invariant in
    let (same, next) = c.in_ok-stop-2.ensures.offer in (
      again _ _ _ _ _ c.in_ok-stop-2.stop goes c.in-Some-Store.is c.in_ok-stop-2.ensures.goes,
      same ∙ kept,
      subst (λ o. IfSome c.in_ok-stop-2.stop (StopOffered o)) kept next,
    )
