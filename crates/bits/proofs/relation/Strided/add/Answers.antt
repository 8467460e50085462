use Rattle.std.proofs.Common.{ℕ, refl, subst}
use Rattle.bits.proofs.Inheriting.{both_grows, both_sized, both_symmetric, off_from}
use Rattle.bits.proofs.relation.Strided.add.Goals as goal
use Rattle.bits.specs.Words.{Marked}
use Rattle.std.proofs.lemmas.Bool.{false≢true}

pub invariant_of-self : goal.invariant_of-self
invariant_of-self c =
    let r = c.args.self.now in
    let z = r.stride in
    let s = r.bits.words.now in
    let t = c.set.new.self.words.now in
    let u = c.set-2.new.self.words.now in
    let (ha, hb, e) = c.in-Some-Some.ensures in
    let m = subst (λ (i : ℕ). Marked i s t) e c.set.ensures in
    let n = subst (λ (i : ℕ). Marked i t u) c.in-Some-Some.ensures'.2 c.set-2.ensures in
    record {
      sized = both_sized z c.args.a c.args.b s t u ha hb r.sized m n;
      symmetric = both_symmetric z c.args.a c.args.b s t u ha hb r.sized m n r.symmetric;
    }

pub returns : goal.returns
returns c =
    let r = c.args.self.now in
    let z = r.stride in
    let s = r.bits.words.now in
    let t = c.set.new.self.words.now in
    let u = c.set-2.new.self.words.now in
    let (ha, hb, e) = c.in-Some-Some.ensures in
    let m = subst (λ (i : ℕ). Marked i s t) e c.set.ensures in
    let n = subst (λ (i : ℕ). Marked i t u) c.in-Some-Some.ensures'.2 c.set-2.ensures in
    let off = off_from ha hb (λ o. false≢true (c.if-has.ensures.1 o)) in
    record { stride = refl; grows = both_grows z c.args.a c.args.b s t u ha hb r.sized m n off }
