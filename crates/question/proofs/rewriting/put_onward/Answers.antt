use Rattle.std.proofs.Common.{◌≡◌, ◌<◌, get_or, length, refl, ◌∙◌}
use Rattle.distinct.specs.Items.{items}
use Rattle.question.proofs.Working.{read_at, read_past, worked_exit, working_end, working_over, working_turn}
use Rattle.question.proofs.rewriting.put_onward.Goals as goal
use Rattle.question.proofs.rewriting.put_onward.Goals.{In-Some}
use Rattle.question.specs.Records.{query}
use Rattle.std.proofs.lemmas.Result.{err_from_is_err_and}

-- the record whose turn it is
turn : (c : In-Some) → (c.loop-next.done < length (items c.loop-next.table)) × (query c.in-Some.next ≡ query (get_or (items c.loop-next.table) c.loop-next.done c.in-Some.next))
turn c = read_at _ (items c.loop-next.table) c.loop-next.done c.get.result c.items.ensures c.get.ensures.lookup c.copied.ensures c.in-Some.is

pub loop-next-preserved : goal.loop-next-preserved
loop-next-preserved c =
    let e = c.in_ok-put_next.ensures in
    let (low, is) = turn (goal.at.loop-next-preserved c).In-Some in (
      λ q before w. working_turn c.in-Some.next _ q before _ _ _ _ low is (c.loop-next.invariant.0 q before w) e,
      e.grown.size ∙ c.loop-next.invariant.1,
      e.grown.lent ∙ c.loop-next.invariant.2,
    )

pub returns-in_err-put_next : goal.returns-in_err-put_next
returns-in_err-put_next c =
    let p = err_from_is_err_and c.from_residual.result c.from_residual.ensures.1 in
    let e = c.in_err-put_next.ensures in
    let (low, is) = turn (goal.at.returns-in_err-put_next c).In-Some in
    record {
      worked = λ q before w. worked_exit _ q before c.put_next.new.table _ _ _ p.1 p.2 e.0
          (working_over c.in-Some.next _ q before _ _ _ _ low is (c.loop-next.invariant.0 q before w) e.1);
      lent = e.1.grown.lent ∙ c.loop-next.invariant.2;
    }

pub returns : goal.returns
returns c =
    let past = read_past _ (items c.loop-next.table) c.loop-next.done c.get.result c.items.ensures c.get.ensures.lookup c.copied.ensures c.in_default.is in
    record {
      worked = λ q before w. working_end _ q before _ _ _ refl past (c.loop-next.invariant.0 q before w);
      lent = c.loop-next.invariant.2;
    }
