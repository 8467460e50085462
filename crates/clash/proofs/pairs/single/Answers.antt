use Rattle.clash.proofs.pairs.single.Goals as goal
use Rattle.distinct.proofs.Decided.{member_answered}
use Rattle.std.proofs.Common.{List, Decides, subst}
use Rattle.vocabulary.specs.Equality.{rule_eq, rule_eq_same}
use Rattle.vocabulary.specs.declared.rules.Rule.{Rule}
use Rattle.vocabulary.specs.declared.rules.Rule.TheVariants.{Single}
use mathlib.Core.List.{Memᴰ}

pub returns : goal.returns
returns c =
    let d = c.args.d in
    let r = c.contains.result in
    subst (λ (rules : List Rule). Decides r (Memᴰ (Single d) rules)) c.rules.ensures
    (member_answered rule_eq rule_eq_same c.rules.result.now (Single d) r c.contains.ensures.cases)
