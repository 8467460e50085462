use Rattle.std.proofs.Common.{refl, sym, arith}
use Rattle.std.proofs.lemmas.Bool.{false≢true}
use Rattle.facts.proofs.Listing.{parted_added}
use Rattle.facts.proofs.Places.{untouched}
use Rattle.facts.specs.Changes.{not_taken, out_of_range}
use Rattle.bitstore.proofs.Held.{count_facts, facts_different, facts_order, stands_bit}
use Rattle.bitstore.proofs.Order.{inserted_is}
use Rattle.bitstore.proofs.Stored.{fact_in, fact_out, parted_in}
use Rattle.bitstore.proofs.store.BitStoreStore.enter.Goals as goal

pub returns-then-not-fits-clause-entered : goal.returns-then-not-fits-clause-entered
returns-then-not-fits-clause-entered c = (out_of_range (λ h. false≢true (c.if-not-fits.ensures.1 h)), untouched)

pub returns-in_default-clause-entered : goal.returns-in_default-clause-entered
returns-in_default-clause-entered c =
    let s = c.args.self.now in
    (not_taken (c.if-not-fits.ensures.0 refl) (λ m. c.in_default.ensures (stands_bit s.names s.table.now (omega arith) c.args.fact m).0) (λ t. c.in_default.ensures t.0), untouched)

pub returns-then-is_set-clause-entered : goal.returns-then-is_set-clause-entered
returns-then-is_set-clause-entered c = (fact_in c.args.self.now c.args.fact c.in-Some.k c.in-Some.ensures (sym c.if-is_set.ensures), untouched)

pub returns-then-self-ge-MOST-clause-entered : goal.returns-then-self-ge-MOST-clause-entered
returns-then-self-ge-MOST-clause-entered c =
    let s = c.args.self.now in
    (not_taken (c.if-not-fits.ensures.0 refl) (fact_out s c.args.fact c.in-Some.k c.in-Some.ensures (sym c.if-is_set.ensures)) (λ t. absurd (omega (arith, count_facts s.names s.table.now, t.1))), untouched)

pub returns-clause-entered : goal.returns-clause-entered
returns-clause-entered c =
    let s = c.args.self.now in
    let t = c.turn.new.self in
    let p = parted_in s c.args.fact c.in-Some.k c.in-Some.ensures t c.turn.ensures.names c.turn.ensures.bit in
    (c.if-not-fits.ensures.0 refl, (c.in-Some.ensures.0, omega (arith, count_facts s.names s.table.now)), parted_added p (facts_different t.names t.table.now (omega arith)))

pub returns-clause-order : goal.returns-clause-order
returns-clause-order c =
    let s = c.args.self.now in
    let t = c.turn.new.self in
    let p = parted_in s c.args.fact c.in-Some.k c.in-Some.ensures t c.turn.ensures.names c.turn.ensures.bit in
    inserted_is p (facts_order t.names t.table.now (omega arith))
