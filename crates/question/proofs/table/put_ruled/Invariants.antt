use Rattle.question.proofs.table.put_ruled.Given as goal
use Rattle.question.specs.Growth.{Below, ByRule, ByRules, Filled, rule_at}
use Rattle.question.specs.Parts.{of_parts}

abbrev pub invariant-loop-i : goal.invariant-loop-i
invariant-loop-i l = Filled (Below (λ i. ByRules l.rules (of_parts l.question) i) l.i) l.initial.table l.table

abbrev pub invariant-loop-rule : goal.invariant-loop-rule
invariant-loop-rule l = Filled (Below (λ k. ByRule (rule_at l.rules k) (of_parts l.question) l.i) l.rule-index) l.initial.table l.table
