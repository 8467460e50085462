use Rattle.question.proofs.Growing.{at_break, filled_next, filled_ruled, filled_start, none_ruled, over_ruled, overfull_next}
use Rattle.question.proofs.table.put_ruled.Goals as goal
use Rattle.question.proofs.table.put_ruled.Goals.{in-Some+in_ok-put, in_default}
use Rattle.question.specs.Growth.{Below, ByRule, ByRules, Filled, rule_at}
use Rattle.question.specs.Parts.{of_parts}
use Rattle.std.proofs.Common.{◌≡◌, ℕ, List, get_or, length, ap, subst, arith}
use Rattle.std.proofs.lemmas.Result.{err_from_is_err_and}
use Rattle.vocabulary.specs.declared.questions.Atom.{Atom}

pub loop-i-init : goal.loop-i-init
loop-i-init c = filled_start _ _

pub loop-rule-init : goal.loop-rule-init
loop-rule-init c = filled_start _ _

pub loop-rule-preserved : goal.loop-rule-preserved
loop-rule-preserved c =
    let q = of_parts c.args.question.now in
    let at = ap (λ (xs : List Atom). get_or xs c.loop-i.i _) c.all-a-items.ensures.same in
    elim c.match-becomes.branch [
      | in-Some+in_ok-put w ↦ rw w.table-is (filled_next (λ k. ByRule (rule_at c.args.rules.now k) q c.loop-i.i) _ _ _ _ c.loop-rule.invariant (filled_ruled _ q c.loop-i.i _ w.in-Some.made _ _ _ at w.in-Some.ensures.made w.replaced.ensures w.in_ok-put.ensures))
      | in_default w ↦ rw w.table-is (filled_next (λ k. ByRule (rule_at c.args.rules.now k) q c.loop-i.i) _ _ _ _ c.loop-rule.invariant (none_ruled _ q c.loop-i.i _ _ at w.in_default.ensures.made))
    ]

pub returns-in_err-put : goal.returns-in_err-put
returns-in_err-put c =
    let p = err_from_is_err_and c.from_residual.result c.from_residual.ensures.1 in
    let e = c.in_err-put.ensures in
    let q = of_parts c.args.question.now in
    let at = ap (λ (xs : List Atom). get_or xs c.loop-i.i _) c.all-a-items.ensures.same in
    let over = over_ruled _ q c.loop-i.i _ c.in-Some.made _ _ _ at c.in-Some.ensures.made c.replaced.ensures e.1 in
    at_break _ _ _ _ _ _ p.1 p.2 e.0
    (overfull_next (λ i. ByRules c.args.rules.now q i) _ (length q.atoms) _ _ _ (omega (arith, ap length c.all-a-items.ensures.same)) c.loop-i.invariant
    (overfull_next (λ k. ByRule (rule_at c.args.rules.now k) q c.loop-i.i) _ (length c.args.rules.now) _ _ _ c.loop-rule-test.true c.loop-rule.invariant over))

pub loop-i-preserved : goal.loop-i-preserved
loop-i-preserved c =
    let q = of_parts c.args.question.now in
    let all : c.loop-rule.rule-index ≡ length c.args.rules.now = omega arith in
    filled_next (λ i. ByRules c.args.rules.now q i) _ _ _ _ c.loop-i.invariant
    (subst (λ (n : ℕ). Filled (Below (λ k. ByRule (rule_at c.args.rules.now k) q c.loop-i.i) n) c.loop-i.table c.loop-rule.table) all c.loop-rule.invariant)
