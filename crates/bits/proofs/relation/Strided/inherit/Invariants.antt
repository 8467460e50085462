use Rattle.bits.proofs.relation.Strided.inherit.Given as goal
use Rattle.bits.specs.Relations.{Covers, Grows, Inherited, On}
use Rattle.std.proofs.Common.{◌≡◌, ◌*◌, ◌<◌}

abbrev pub invariant-loop-k : goal.invariant-loop-k
invariant-loop-k l =
    let z = l.initial.self.stride in
    let s = l.initial.self.bits.words.now in
    (l.self.stride ≡ z)
    × Grows z (Inherited l.from l.to (On z s)) (λ v. l.from < 64 * z → Covers z v l.from l.to l.k) l.any s l.self.bits.words.now
