use Rattle.question.proofs.Counting.{times_sum}
use Rattle.question.proofs.counts.occurrences_in.Goals as goal
use Rattle.question.specs.Shorts.{listed}
use Rattle.std.proofs.Common.{◌≡◌, [], ◌∷◌, sym, ◌∙◌, rules}
use Rattle.std.specs.List.{sum_by}
use Rattle.theory.specs.Tidying.{all_terms, times}

pub returns : goal.returns
returns c =
    let e : c.sum.result ≡ sum_by (λ a. times c.args.n (all_terms (a ∷ []))) (listed c.args.xs.now) = search rules in
    e ∙ sym (times_sum c.args.n (listed c.args.xs.now))
