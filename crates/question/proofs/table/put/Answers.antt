use Rattle.question.proofs.Growing.{kept_same, put_same, taken_full, taken_put}
use Rattle.distinct.proofs.Told.{told_full, told_ok}
use Rattle.distinct.specs.Items.{items}
use Rattle.question.proofs.table.put.Goals as goal
use Rattle.std.proofs.Common.{◌≡◌, refl, ◌∙◌, rules}
use Rattle.std.proofs.lemmas.Result.{err_from_is_err_and}
use Rattle.vocabulary.specs.declared.faults.Fault.TheVariants.{Rewritings}

pub returns : goal.returns
returns c =
    let e = c.put.ensures in
    let told = told_ok _ _ c.put.result c.in_ok-map_err.field-0 c.in_ok-map_err.ensures.cases c.in_ok-map_err.ensures.variant in
    taken_put _ _ c.from.result _ (c.from.ensures ∙ c.tidied.ensures) _ (put_same c.args.table.now c.put.new.self c.from.result told e.outcome) (kept_same (items c.args.table.now) (items c.put.new.self) e.distinct) e.room e.lent

pub returns-in_err-map_err : goal.returns-in_err-map_err
returns-in_err-map_err c =
    let e = c.put.ensures in
    let p = err_from_is_err_and c.from_residual.result c.from_residual.ensures.1 in
    let told = told_full c.put.result c.in_err-map_err.ensures.variant in
    let n : c.in_err-map_err.field-0.0 ≡ Rewritings = search rules in
    rw (p.1, p.2, n) (refl, taken_full _ _ c.from.result _ (c.from.ensures ∙ c.tidied.ensures) (put_same c.args.table.now c.put.new.self c.from.result told.1 e.outcome) e.room e.lent)
