use Rattle.std.proofs.lemmas.Iterator.Consumers.{YieldsList-from_enumerate, YieldsList-from_first}
use Rattle.std.proofs.lemmas.Bool.Decides.{not_from_Decides}
use Rattle.std.proofs.lemmas.List.{length_push}
use Rattle.std.proofs.Common.{ℕ, ◌+◌, ◌<◌, drop, length, refl, subst, arith, below_more, rules}
use Rattle.clash.proofs.Places.{calm_here}
use Rattle.clash.proofs.check.first_pair.Goals as goal
use Rattle.clash.specs.Searches.{CalmAt}
use Rattle.facts.proofs.Nth.{nth_within}
use Rattle.facts.specs.Rests.{rest}
use Rattle.facts.proofs.Rounds.{counted_end, counted_place, turn_place, turns_end}

pub loop-g-preserved : goal.loop-g-preserved
loop-g-preserved g c =
    let book = c.args.book.now in
    let xs = g.S.Source.facts c.args.source.now in
    let i = c.in-Some.i in
    let f = c.in-Some.f in
    let outer = YieldsList-from_enumerate {s = c.into_iter-i-iterator.result} (YieldsList-from_first (λ x. x) (rest g.S.Source.facts) xs (search rules)) (search rules) in
    let inner = YieldsList-from_first (λ x. x) (rest g.S.Source.facts) {s = c.into_iter-g-iterator.result} (drop (i + 1) xs) (search rules) in
    let p = counted_place xs outer c.outer.yielded _ c.outer.yielded_by _ c.next.new.self i f c.in-Some.is c.next.ensures.steps in
    let h = c.in-Some-g.g in
    let q = turn_place xs (i + 1) inner c.loop-g.yielded _ c.loop-g.yielded_by _ c.next-in-loop-g.new.self h c.in-Some-g.is c.next-in-loop-g.ensures.steps (i + 1 + length c.loop-g.yielded) refl in
    let calm = calm_here book.family book.rules.now xs i (i + 1 + length c.loop-g.yielded) f h p.1 q (not_from_Decides c.clashing.result c.clashing.ensures c.if-clashing.false) in
    (c.loop-g.invariant.0, λ m low. below_more _ _ c.loop-g.invariant.1 (λ _. calm) m (omega (arith, length_push c.loop-g.yielded h)))

-- a row is done where its places are
pub outer-preserved : goal.outer-preserved
outer-preserved g c =
    let book = c.args.book.now in
    let xs = g.S.Source.facts c.args.source.now in
    let i = c.in-Some.i in
    let f = c.in-Some.f in
    let outer = YieldsList-from_enumerate {s = c.into_iter-i-iterator.result} (YieldsList-from_first (λ x. x) (rest g.S.Source.facts) xs (search rules)) (search rules) in
    let inner = YieldsList-from_first (λ x. x) (rest g.S.Source.facts) {s = c.into_iter-g-iterator.result} (drop (i + 1) xs) (search rules) in
    let p = counted_place xs outer c.outer.yielded _ c.outer.yielded_by _ c.next.new.self i f c.in-Some.is c.next.ensures.steps in
    let end = turns_end xs (i + 1) inner c.loop-g.yielded _ c.loop-g.yielded_by _ c.next-in-loop-g.new.self c.in-None-g.is c.next-in-loop-g.ensures.steps in
    let row : (m : ℕ) → i < m → CalmAt book.family book.rules.now xs i m =
    λ m low x y at there. c.loop-g.invariant.1 m (omega (arith, nth_within xs m _ there)) low x y at there in
    let row' = subst (λ k. (m : ℕ) → k < m → CalmAt book.family book.rules.now xs k m) p.0 row in
    (c.loop-g.invariant.0, λ k low. below_more _ _ c.outer.invariant.1 row' k (omega (arith, length_push c.outer.yielded (i, f))))

pub returns-in-None : goal.returns-in-None
returns-in-None g c =
    let xs = g.S.Source.facts c.args.source.now in
    let outer = YieldsList-from_enumerate {s = c.into_iter-i-iterator.result} (YieldsList-from_first (λ x. x) (rest g.S.Source.facts) xs (search rules)) (search rules) in
    let all = counted_end xs outer c.outer.yielded _ c.outer.yielded_by _ c.next.new.self c.in-None.is c.next.ensures.steps in
    simp c.outer.invariant.0 (λ k m low f h p q. c.outer.invariant.1 k (omega (arith, nth_within xs k _ p)) m low f h p q)

pub returns-then-clashing : goal.returns-then-clashing
returns-then-clashing g c =
    let book = c.args.book.now in
    let xs = g.S.Source.facts c.args.source.now in
    let i = c.in-Some.i in
    let f = c.in-Some.f in
    let outer = YieldsList-from_enumerate {s = c.into_iter-i-iterator.result} (YieldsList-from_first (λ x. x) (rest g.S.Source.facts) xs (search rules)) (search rules) in
    let inner = YieldsList-from_first (λ x. x) (rest g.S.Source.facts) {s = c.into_iter-g-iterator.result} (drop (i + 1) xs) (search rules) in
    let p = counted_place xs outer c.outer.yielded _ c.outer.yielded_by _ c.next.new.self i f c.in-Some.is c.next.ensures.steps in
    let h = c.in-Some-g.g in
    let q = turn_place xs (i + 1) inner c.loop-g.yielded _ c.loop-g.yielded_by _ c.next-in-loop-g.new.self h c.in-Some-g.is c.next-in-loop-g.ensures.steps (i + 1 + length c.loop-g.yielded) refl in
    record {
      first = i;
      second = i + 1 + length c.loop-g.yielded;
      order = omega arith;
      at_first = p.1;
      at_second = q;
      clashes = c.clashing.ensures.0 c.if-clashing.true;
      rows = λ k low. c.outer.invariant.1 k (omega (arith, p.0));
      row = c.loop-g.invariant.1;
    }
