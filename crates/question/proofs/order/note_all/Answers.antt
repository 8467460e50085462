use Rattle.question.proofs.Ordering.{firsts_more, firsts_room}
use Rattle.question.proofs.order.note_all.Goals as goal
use Rattle.question.specs.Shorts.{listed}
use Rattle.std.proofs.Common.{[], ◌∷◌, length, sym, ap, ◌∙◌, arith}
use Rattle.theory.specs.Tidying.{firsts}

pub note-requires : goal.note-requires
note-requires c = omega (arith, ap length c.loop-t.invariant, firsts_room c.args.ts.now c.loop-t.t-index (listed c.args.seen.now) c.loop-t-test.true)

pub loop-t-preserved : goal.loop-t-preserved
loop-t-preserved c =
    c.note.ensures ∙ ap (firsts (_ ∷ [])) c.loop-t.invariant
    ∙ sym (firsts_more _ c.args.ts.now c.loop-t.t-index (listed c.args.seen.now) c.loop-t-test.true)
