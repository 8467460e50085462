use Rattle.question.proofs.Counting.{times_count}
use Rattle.question.proofs.counts.occurrences.Goals as goal
use Rattle.std.proofs.Common.{◌≡◌, sym, ◌∙◌, arith, rules}
use Rattle.std.proofs.lemmas.List.Sums.{count_by-le-length}
use Rattle.std.specs.List.{count_by}
use Rattle.vocabulary.specs.Equality.{term_eq}
use Rattle.vocabulary.specs.declared.questions.Term.TheVariants.{Variable}

pub returns : goal.returns
returns c =
    let ts = c.args.ts.now in
    let e : c.count.result ≡ count_by (λ t. term_eq (Variable c.args.n) t) ts = search rules in
    (e ∙ sym (times_count c.args.n ts), omega (arith, e, count_by-le-length (λ t. term_eq (Variable c.args.n) t) ts))
