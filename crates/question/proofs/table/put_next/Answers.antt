use Rattle.question.proofs.Growing.{at_break, over_next, taken_next}
use Rattle.question.proofs.table.put_next.Goals as goal
use Rattle.std.proofs.lemmas.Result.{err_from_is_err_and}

pub returns : goal.returns
returns c = taken_next _ _ _ _ _ _ c.in_ok-put_ruled.ensures c.put_merged.ensures

pub returns-in_err-put_ruled : goal.returns-in_err-put_ruled
returns-in_err-put_ruled c =
    let p = err_from_is_err_and c.from_residual.result c.from_residual.ensures.1 in
    let e = c.in_err-put_ruled.ensures in
    at_break _ _ _ _ _ _ p.1 p.2 e.0 (over_next _ _ _ _ e.1)
