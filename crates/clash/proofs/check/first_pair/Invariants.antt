use Rattle.std.proofs.Common.{◌≡◌, ℕ, ◌+◌, ◌<◌, None, length}
use Rattle.clash.proofs.check.first_pair.Given as goal
use Rattle.clash.specs.Searches.{CalmAt}

-- no pair is found, in the rows above and in this row so far
abbrev pub invariant-outer : goal.invariant-outer
invariant-outer g l =
    let xs = g.S.Source.facts l.source in
    (l.blamed ≡ None) × ((k : ℕ) → k < length l.yielded → (m : ℕ) → k < m → CalmAt l.book.family l.book.rules.now xs k m)

abbrev pub invariant-loop-g : goal.invariant-loop-g
invariant-loop-g g l =
    let xs = g.S.Source.facts l.source in
    (l.blamed ≡ None) × ((m : ℕ) → m < l.i + 1 + length l.yielded → l.i < m → CalmAt l.book.family l.book.rules.now xs l.i m)
