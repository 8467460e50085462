use Rattle.question.proofs.Growing.{at_break, filled_merged, filled_next, filled_start, later_start, none_merged, over_merged, overfull_next}
use Rattle.question.proofs.table.put_merged.Goals as goal
use Rattle.question.proofs.table.put_merged.Goals.{in-Some+in_ok-put, in_default}
use Rattle.question.specs.Growth.{Below, ByLater, ByMerge, Filled}
use Rattle.question.specs.Parts.{of_parts}
use Rattle.std.proofs.Common.{◌≡◌, ℕ, length, subst, arith}
use Rattle.std.proofs.lemmas.Result.{err_from_is_err_and}

pub loop-i-init : goal.loop-i-init
loop-i-init c = filled_start _ _

pub loop-j-init : goal.loop-j-init
loop-j-init c = later_start _ _ _

pub loop-j-preserved : goal.loop-j-preserved
loop-j-preserved c =
    let q = of_parts c.args.question.now in
    elim c.match-merged.branch [
      | in-Some+in_ok-put w ↦
          let h = w.in-Some.ensures _ in
          rw w.table-is
          (filled_next (λ j. ByMerge q c.loop-i.i j) _ _ _ _ c.loop-j.invariant (filled_merged q c.loop-i.i c.loop-j.j h.0 _ _ _ (omega arith) h.1 h.2 w.in_ok-put.ensures))
      | in_default w ↦ rw w.table-is (filled_next (λ j. ByMerge q c.loop-i.i j) _ _ _ _ c.loop-j.invariant (none_merged q c.loop-i.i c.loop-j.j _ (w.in_default.ensures _)))
    ]

pub returns-in_err-put : goal.returns-in_err-put
returns-in_err-put c =
    let p = err_from_is_err_and c.from_residual.result c.from_residual.ensures.1 in
    let e = c.in_err-put.ensures in
    let h = c.in-Some.ensures _ in
    let q = of_parts c.args.question.now in
    let over = over_merged q c.loop-i.i c.loop-j.j h.0 _ _ _ (omega arith) h.1 h.2 e.1 in
    at_break _ _ _ _ _ _ p.1 p.2 e.0
    (overfull_next (λ i. ByLater q i) _ (length q.atoms) _ _ _ (omega arith) c.loop-i.invariant
    (overfull_next (λ j. ByMerge q c.loop-i.i j) _ (length q.atoms) _ _ _ (omega arith) c.loop-j.invariant over))

pub loop-i-preserved : goal.loop-i-preserved
loop-i-preserved c =
    let q = of_parts c.args.question.now in
    let all : c.loop-j.j ≡ length q.atoms = omega arith in
    filled_next (λ i. ByLater q i) _ _ _ _ c.loop-i.invariant
    (subst (λ (n : ℕ). Filled (Below (λ j. ByMerge q c.loop-i.i j) n) c.loop-i.table c.loop-j.table) all c.loop-j.invariant)
