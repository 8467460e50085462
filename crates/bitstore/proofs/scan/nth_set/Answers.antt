use Rattle.std.proofs.Common.{◌<◌, sym, refl, ◌∙◌, subst, rules, tests, arith}
use Rattle.std.proofs.lemmas.Iterator.Consumers.{YieldsList-from_filter, nth_from_yields_List}
use Rattle.std.proofs.lemmas.Iterator.{YieldsList-from_range}
use Rattle.bits.specs.Words.{bit_of}
use Rattle.bitstore.specs.Marks.{Ranked}
use Rattle.facts.proofs.Nth.{some_inj}
use Rattle.bitstore.proofs.Reached.{nth_ranked}
use Rattle.bitstore.proofs.scan.nth_set.Goals as goal

pub unwrap-requires : goal.unwrap-requires
unwrap-requires c =
    let given = nth_from_yields_List c.nth.result c.nth.new.self c.args.left c.nth.ensures.ran (YieldsList-from_filter _ (bit_of c.args.byte) (YieldsList-from_range 0 8 8 (cc) (omega arith)) c.filter.ensures.closure (λ x r q k. search (rules, tests))) in
    let found = nth_ranked (bit_of c.args.byte) 8 c.args.left c.nth.result given c.requires in
    rw found.1 refl

pub returns : goal.returns
returns c =
    let given = nth_from_yields_List c.nth.result c.nth.new.self c.args.left c.nth.ensures.ran (YieldsList-from_filter _ (bit_of c.args.byte) (YieldsList-from_range 0 8 8 (cc) (omega arith)) c.filter.ensures.closure (λ x r q k. search (rules, tests))) in
    let found = nth_ranked (bit_of c.args.byte) 8 c.args.left c.nth.result given c.requires in
    subst (λ x. (x < 8) × Ranked (bit_of c.args.byte) c.args.left x) (some_inj (sym found.1 ∙ c.unwrap.ensures)) (found.2, found.3)
