use Rattle.question.proofs.Ordering.{body_more, body_room, firsts_append, firsts_few}
use Rattle.question.proofs.parts.Parts.order.Goals as goal
use Rattle.question.specs.Shorts.{listed}
use Rattle.std.proofs.Common.{[], ◌∷◌, length, sym, ap, ◌∙◌, arith, take_all}
use Rattle.theory.specs.Tidying.{all_terms, firsts}

pub note_all-requires : goal.note_all-requires
note_all-requires c = omega (arith, ap length c.empty-seen.ensures)

pub note_atom-requires : goal.note_atom-requires
note_atom-requires c =
    let head = firsts_few c.all.result.now (listed c.empty-seen.result) in
    let body = body_room c.all-a-items.result.now c.loop-a.a-index (listed c.note_all.new.seen) c.loop-a-test.true in
    omega (arith, head, body, ap length c.empty-seen.ensures, ap length c.note_all.ensures, ap length c.loop-a.invariant)

pub loop-a-preserved : goal.loop-a-preserved
loop-a-preserved c =
    c.note_atom.ensures ∙ ap (firsts (all_terms (_ ∷ []))) c.loop-a.invariant
    ∙ sym (body_more _ c.all-a-items.result.now c.loop-a.a-index (listed c.note_all.new.seen) c.loop-a-test.true)

pub returns : goal.returns
returns c =
    let p = c.args.self.now in
    let whole = firsts_append (listed p.head) (all_terms (listed p.atoms)) [] in
    let all = take_all c.loop-a.a-index c.all-a-items.result.now c.loop-a-test.false in
    cc
