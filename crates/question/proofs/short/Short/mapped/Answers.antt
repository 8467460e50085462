use Rattle.distinct.proofs.Members.{member_at}
use Rattle.question.proofs.Shorts.{map_turn}
use Rattle.question.proofs.short.Short.mapped.Goals as goal
use Rattle.question.specs.Shorts.{listed}
use Rattle.std.proofs.Common.{[], ◌∷◌, length, map, ap, ◌∙◌, arith, length-append, take_all}
use mathlib.Core.List.Memᴰ

pub f-requires : goal.f-requires
f-requires g c = c.requires.each c.x-item.result (Memᴰ.cast c.x-item.is (member_at c.args.xs.now c.loop-x.x-index c.x-item.result c.loop-x-test.true))

pub loop-x-preserved : goal.loop-x-preserved
loop-x-preserved g c = (
  omega (arith, ap length c.push.ensures, length-append (listed c.loop-x.made) (c.f.result ∷ [])),
  λ h k. let x = c.x-item.result in
      let can = c.requires.each x (Memᴰ.cast c.x-item.is (member_at c.args.xs.now c.loop-x.x-index x c.loop-x-test.true)) in
      map_turn x h c.args.xs.now c.loop-x.x-index _ _ c.f.result c.loop-x-test.true (c.loop-x.invariant.1 h k) (k x c.f.result can c.f.ensures ∙ ap h c.x-item.is) c.push.ensures,
)

pub returns : goal.returns
returns g c = λ h k. c.loop-x.invariant.1 h k ∙ ap (map h) (take_all c.loop-x.x-index c.args.xs.now c.loop-x-test.false)
