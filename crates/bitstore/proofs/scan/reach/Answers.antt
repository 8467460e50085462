use Rattle.std.proofs.Common.{◌≡◌, refl, arith}
use Rattle.std.proofs.lemmas.Fn.{says_at}
use Rattle.std.specs.Fn.{FnReturnsAt}
use Rattle.bitstore.proofs.Reached.{turn_inside, turn_measured, turn_size, turn_sums}
use Rattle.bitstore.proofs.scan.reach.Goals as goal

pub returns-then-left-here-clause-measured : goal.returns-then-left-here-clause-measured
returns-then-left-here-clause-measured g c measure all =
    let xs = c.args.items.now in
    let x = c.item-item.result in
    let i = c.loop-i.i in
    let n : c.size-here.result ≡ measure x =
    turn_measured measure xs c.args.from i x c.item-item.is c.loop-i-test.true (FnReturnsAt g.F.Fn c.args.size) c.size-here.result all (says_at g.F.Fn c.size-here.ensures refl) in
    record {
      inside = turn_inside measure xs c.args.from i x c.item-item.is c.loop-i-test.true;
      same = c.loop-i.invariant measure all;
      here = omega (arith, turn_size measure xs c.args.from i x c.item-item.is c.loop-i-test.true);
    }

pub loop-i-preserved : goal.loop-i-preserved
loop-i-preserved g c measure all =
    let xs = c.args.items.now in
    let x = c.item-item.result in
    let i = c.loop-i.i in
    let n : c.size-here.result ≡ measure x =
    turn_measured measure xs c.args.from i x c.item-item.is c.loop-i-test.true (FnReturnsAt g.F.Fn c.args.size) c.size-here.result all (says_at g.F.Fn c.size-here.ensures refl) in
    omega (arith, c.loop-i.invariant measure all, turn_sums measure xs c.args.from i x c.item-item.is c.loop-i-test.true)
