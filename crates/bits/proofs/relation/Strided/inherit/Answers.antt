use Rattle.std.proofs.Common.{ℕ, ◌*◌, ◌<◌, refl, ◌∙◌, subst, arith, below_more}
use Rattle.bits.proofs.Inheriting.{grows_none, inherits_then}
use Rattle.bits.proofs.relation.Strided.inherit.Goals as goal
use Rattle.bits.specs.Relations.{Grows, Inherited, On, base}

pub returns-then-covers : goal.returns-then-covers
returns-then-covers c = record { stride = refl; grows = grows_none (λ x y h. base h) (c.if-covers.ensures refl) }

pub loop-k-init : goal.loop-k-init
loop-k-init c = (refl, grows_none (λ x y h. base h) (λ l k h o. absurd (omega arith)))

pub loop-k-preserved : goal.loop-k-preserved
loop-k-preserved c =
    let z = c.args.self.now.stride in
    let from = c.args.from in
    let to = c.args.to in
    let k = c.loop-k.k in
    let s = c.loop-k.self.bits.words.now in
    let t = c.pass-any.new.self.bits.words.now in
    let same = c.loop-k.invariant.0 in (
      c.pass-any.ensures.stride ∙ same,
      inherits_then (λ v below here l. below_more (λ j. On z v to j → On z v from j) k (below l) (here l)) c.loop-k.invariant.1
          (subst (λ (y : ℕ). Grows y (Inherited from to (On y s)) (λ v. from < 64 * y → On y v to k → On y v from k) c.pass-any.result s t) same c.pass-any.ensures.grows),
    )

pub returns : goal.returns
returns c =
    let h = c.loop-k.invariant.1 in
    record {
      stride = c.loop-k.invariant.0;
      grows = record {
        more = h.more;
        sound = h.sound;
        at_most = h.at_most;
        added = h.added;
        idle = λ e. ((h.idle e).0, λ l k below o. (h.idle e).1 l k (omega (arith, c.loop-k-test.false, c.size-n.ensures)) o);
      };
    }
