use Rattle.book.proofs.Steps.{adds_like, adds_then}
use Rattle.book.proofs.closure.Closure.spread.Goals as goal
use Rattle.book.specs.Growth.{EndKnown, LinkKnown, StartKnown}

pub returns : goal.returns
returns c =
    let d = c.args.d in
    adds_then {C = λ t. EndKnown d t × LinkKnown d t} {D = StartKnown c.args.family d} (λ i j. (i.0, i.1, j))
    (adds_then {C = EndKnown d} {D = LinkKnown d} (λ i j. (i, j)) (adds_like (λ x e. tt) (λ i. i) c.spread_end-any.ensures) (adds_like (λ x e. tt) (λ i. i) c.spread_link-any.ensures))
    c.spread_start-any.ensures
