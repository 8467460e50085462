use Rattle.std.proofs.Common.{refl, sym, subst, arith}
use Rattle.facts.proofs.Listing.{parted_added, parted_without}
use Rattle.facts.proofs.Places.{untouched}
use Rattle.facts.specs.Changes.{NamesBelow}
use Rattle.bitstore.proofs.Held.{count_facts, facts_different, stands_bit}
use Rattle.bitstore.proofs.Stored.{fact_out, parted_out}
use Rattle.bitstore.proofs.store.BitStoreStore.withdraw.Goals as goal

pub returns-in-Some-clause-withdrawn : goal.returns-in-Some-clause-withdrawn
returns-in-Some-clause-withdrawn c =
    let s = c.args.self.now in
    let f = c.args.fact in
    let p = parted_out s f c.in-Some.k c.in-Some.ensures c.turn.new.self c.turn.ensures.names c.turn.ensures.bit in
    let added = parted_added p (facts_different s.names s.table.now (omega arith)) in
    (added, (subst (λ n. NamesBelow n f) (sym c.turn.ensures.names) c.in-Some.ensures.0, omega (arith, added.count, count_facts s.names s.table.now)))

pub returns-in-Some-clause-order : goal.returns-in-Some-clause-order
returns-in-Some-clause-order c =
    let s = c.args.self.now in
    let p = parted_out s c.args.fact c.in-Some.k c.in-Some.ensures c.turn.new.self c.turn.ensures.names c.turn.ensures.bit in
    sym (parted_without p (facts_different s.names s.table.now (omega arith)))

pub returns-in_default-clause-withdrawn : goal.returns-in_default-clause-withdrawn
returns-in_default-clause-withdrawn c =
    (c.if-not-fits.ensures.0 refl, fact_out c.args.self.now c.args.fact c.in-Some.k c.in-Some.ensures (sym c.if-is_set.ensures), untouched)

pub returns-in_default-2-clause-withdrawn : goal.returns-in_default-2-clause-withdrawn
returns-in_default-2-clause-withdrawn c =
    let s = c.args.self.now in
    (c.if-not-fits.ensures.0 refl, (λ m. c.in_default.ensures (stands_bit s.names s.table.now (omega arith) c.args.fact m).0), untouched)
