use Rattle.question.proofs.Ordering.{position_place}
use Rattle.question.proofs.order.place_of.Goals as goal
use Rattle.question.specs.Shorts.{listed}
use Rattle.std.proofs.Common.{◌==◌, ◌∙◌, rules, tests}
use Rattle.std.proofs.lemmas.Iterator.Search.{position_from_yields_List}
use Rattle.std.proofs.lemmas.Iterator.{YieldsList-from_slice}

pub unwrap-requires : goal.unwrap-requires
unwrap-requires c =
    let e = position_from_yields_List (λ m. c.args.n == m) _ _ c.position.result c.position.ensures.ran (YieldsList-from_slice (listed c.args.order.now) cc) (λ x b q k. search (rules, tests)) in
    let f = e ∙ position_place c.args.n (listed c.args.order.now) c.requires in
    search rules

pub returns : goal.returns
returns c =
    let e = position_from_yields_List (λ m. c.args.n == m) _ _ c.position.result c.position.ensures.ran (YieldsList-from_slice (listed c.args.order.now) cc) (λ x b q k. search (rules, tests)) in
    let f = e ∙ position_place c.args.n (listed c.args.order.now) c.requires in
    search rules
