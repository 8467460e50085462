use Rattle.std.proofs.Common.{◌≤◌, length, rules}
use Rattle.distinct.proofs.Distinct.into_items.Goals as goal
use Rattle.distinct.proofs.Fronts.{take_count, count_within}

pub slice_bounds-result-end : goal.slice_bounds-result-end
slice_bounds-result-end g c =
    let h : c.len-count.result ≤ length c.args.self.places.now = count_within c.args.self.len c.args.self.places.now c.len-count.ensures in
    search rules

pub returns : goal.returns
returns g c = take_count c.args.self.len c.args.self.places.now c.len-count.ensures
