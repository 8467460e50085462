use Rattle.distinct.proofs.Decided.{has_same}
use Rattle.distinct.proofs.Sameness.{has_told}
use Rattle.distinct.specs.Items.{items}
use Rattle.facts.proofs.list.ListStoreSource.stands.Goals as goal
use Rattle.vocabulary.specs.Equality.{fact_eq, fact_eq_same}

pub returns : goal.returns
returns c =
    let xs = items c.args.self.now.held in
    let f = c.args.fact in
    let r = c.has.result in
    has_told xs f r (has_same fact_eq fact_eq_same xs f r c.has.ensures)
