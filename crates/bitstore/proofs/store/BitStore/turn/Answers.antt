use Rattle.std.proofs.Common.{◌≡◌, ◌/◌, ◌≤◌, ◌∙◌, get_or, arith, length-set, rules}
use Rattle.bitstore.proofs.Held.{facts_different, facts_fit, facts_short}
use Rattle.bitstore.proofs.Stored.{room_far, room_near, some_all, some_far, some_near, stepped, turned_bits, turned_far, turned_held, turned_near, turned_small}
use Rattle.bitstore.proofs.store.BitStore.turn.Goals as goal

pub step-self-requires-asks-overflow_sub-result : goal.step-self-requires-asks-overflow_sub-result
step-self-requires-asks-overflow_sub-result c κs κs' ptr shape ranges off =
    let s = c.args.self.now in
    some_all s c.args.k c.requires.inside c.args.on off (turned_bits s c.args.k c.requires.inside c.args.on c.requires.other)

pub step-requires-asks-overflow_add-result : goal.step-requires-asks-overflow_add-result
step-requires-asks-overflow_add-result c κs κs' ptr shape ranges up =
    omega (arith, room_far c.args.self.now c.args.k c.requires.inside)

pub step-requires-asks-overflow_sub-result : goal.step-requires-asks-overflow_sub-result
step-requires-asks-overflow_sub-result c κs κs' ptr shape ranges off =
    let s = c.args.self.now in
    some_far s c.args.k c.requires.inside c.args.on off (turned_bits s c.args.k c.requires.inside c.args.on c.requires.other)

pub step-requires-2-asks-overflow_add-result : goal.step-requires-2-asks-overflow_add-result
step-requires-2-asks-overflow_add-result c κs κs' ptr shape ranges up =
    omega (arith, room_near c.args.self.now c.args.k c.requires.inside)

pub step-requires-2-asks-overflow_sub-result : goal.step-requires-2-asks-overflow_sub-result
step-requires-2-asks-overflow_sub-result c κs κs' ptr shape ranges off =
    let s = c.args.self.now in
    some_near s c.args.k c.requires.inside c.args.on off (turned_bits s c.args.k c.requires.inside c.args.on c.requires.other)

pub returns-clause-bit : goal.returns-clause-bit
returns-clause-bit c = turned_bits c.args.self.now c.args.k c.requires.inside c.args.on c.requires.other

pub invariant_of-self : goal.invariant_of-self
invariant_of-self c =
    let s = c.args.self.now in
    let k = c.args.k in
    let on = c.args.on in
    let o = turned_bits s k c.requires.inside on c.requires.other in
    let all : c.step-self.result ≡ stepped on s.count = search rules in
    let wide : c.step.result ≡ stepped on (get_or s.wide (k / 16384) 0) = search rules in
    let close : c.step-2.result ≡ stepped on (get_or s.close (k / 512) 0) = search rules in
    let held = all ∙ turned_held s k c.requires.inside on o in
    let small : c.step-self.result ≤ 4096 = rw all (turned_small s k c.requires.inside on c.requires.room) in
    record {
      some = s.some;
      most = s.most;
      size = simp length-set s.size;
      held = held;
      small = small;
      far = rw wide (turned_far s k c.requires.inside on o (omega arith));
      near = rw close (turned_near s k c.requires.inside on o (omega arith));
      few = facts_short s.names _ c.step-self.result held small;
      different = ∣ facts_different s.names _ (omega arith) ∣₁;
      fitting = ∣ facts_fit s.names _ (omega arith) (omega arith) ∣₁;
    }
