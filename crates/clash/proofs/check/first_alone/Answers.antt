use Rattle.std.proofs.lemmas.Iterator.Consumers.{YieldsList-from_first}
use Rattle.std.proofs.lemmas.Bool.Decides.{not_from_Decides}
use Rattle.std.proofs.lemmas.List.{length_push}
use Rattle.std.proofs.Common.{◌≡◌, Some, length, arith, below_more, rules}
use Rattle.clash.proofs.Places.{calm_here}
use Rattle.clash.proofs.check.first_alone.Goals as goal
use Rattle.facts.proofs.Nth.{nth_within}
use Rattle.facts.specs.Rests.{rest}
use Rattle.facts.proofs.Rounds.{turn_place, turns_end}
use Rattle.std.specs.List.{slice_get}

pub returns-then-clashing : goal.returns-then-clashing
returns-then-clashing g c =
    let xs = g.S.Source.facts c.args.source.now in
    let chain = YieldsList-from_first (λ x. x) (rest g.S.Source.facts) {s = c.into_iter-f-iterator.result} xs (search rules) in
    record {
      place = length c.loop-f.yielded;
      here = turn_place xs 0 chain c.loop-f.yielded _ c.loop-f.yielded_by _ c.next.new.self c.in-Some.f c.in-Some.is c.next.ensures.steps (length c.loop-f.yielded) (omega arith);
      clashes = c.clashing.ensures.0 c.if-clashing.true;
      earlier = c.loop-f.invariant;
    }

pub loop-f-preserved : goal.loop-f-preserved
loop-f-preserved g c =
    let book = c.args.book.now in
    let xs = g.S.Source.facts c.args.source.now in
    let n = length c.loop-f.yielded in
    let f = c.in-Some.f in
    let chain = YieldsList-from_first (λ x. x) (rest g.S.Source.facts) {s = c.into_iter-f-iterator.result} xs (search rules) in
    let here : slice_get xs n ≡ Some f = turn_place xs 0 chain c.loop-f.yielded _ c.loop-f.yielded_by _ c.next.new.self f c.in-Some.is c.next.ensures.steps n (omega arith) in
    rw (length_push c.loop-f.yielded f)
    (below_more _ _ c.loop-f.invariant (calm_here book.family book.rules.now xs n n f f here here (not_from_Decides c.clashing.result c.clashing.ensures c.if-clashing.false)))

pub returns : goal.returns
returns g c k f h p =
    let xs = g.S.Source.facts c.args.source.now in
    let chain = YieldsList-from_first (λ x. x) (rest g.S.Source.facts) {s = c.into_iter-f-iterator.result} xs (search rules) in
    let all = turns_end xs 0 chain c.loop-f.yielded _ c.loop-f.yielded_by _ c.next.new.self c.in-None.is c.next.ensures.steps in
    c.loop-f.invariant k (omega (arith, nth_within xs k _ p)) f h p
