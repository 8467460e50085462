use Rattle.std.proofs.Common.{◌≡◌, ◌+◌, ◌<◌, length, Some, None, sym, ◌∙◌, arith, length-drop}
use Rattle.facts.proofs.Nth.{nth_drop, nth_drop_none, nth_within}
use Rattle.std.specs.List.{slice_get}
use Rattle.facts.proofs.each.FactsIterator.next.Goals as goal

pub overflow_add-self : goal.overflow_add-self
overflow_add-self g c =
    let s = c.args.self.now in
    let xs = g.S.Source.facts s.source.now in
    let here : slice_get xs s.next ≡ Some c.in_ok-fact.fact = sym c.at.ensures ∙ c.in_ok-fact.was in
    omega (arith, nth_within xs s.next _ here, g.S.Source.few s.source.now)

pub returns-clause-steps : goal.returns-clause-steps
returns-clause-steps g c =
    let s = c.args.self.now in
    let xs = g.S.Source.facts s.source.now in
    let here : slice_get xs s.next ≡ Some c.in_ok-fact.fact = sym c.at.ensures ∙ c.in_ok-fact.was in
    nth_drop xs s.next _ here

pub returns-clause-goes : goal.returns-clause-goes
returns-clause-goes g c =
    let s = c.args.self.now in
    let xs = g.S.Source.facts s.source.now in
    let here : slice_get xs s.next ≡ Some c.in_ok-fact.fact = sym c.at.ensures ∙ c.in_ok-fact.was in
    let low : s.next < length xs = nth_within xs s.next _ here in
    omega (arith, length-drop s.next xs, length-drop (s.next + 1) xs)

pub returns-in_err-fact-clause-steps : goal.returns-in_err-fact-clause-steps
returns-in_err-fact-clause-steps g c =
    let s = c.args.self.now in
    let xs = g.S.Source.facts s.source.now in
    let none : slice_get xs s.next ≡ None = sym c.at.ensures ∙ c.in_err-fact.was in
    let e = nth_drop_none xs s.next none in
    rw c.from_residual.ensures (e, e)
