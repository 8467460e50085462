use Rattle.question.proofs.records.RecordPartialEq.eq.Goals as goal
use Rattle.question.proofs.Testing.{query_decided, query_differs}
use Rattle.question.specs.Fingerprints.{fingerprint}
use Rattle.question.specs.Records.{query}
use Rattle.std.proofs.Common.{ap, sym, ◌∙◌, ne_eqb}

pub returns-then-self-other-clause-same : goal.returns-then-self-other-clause-same
returns-then-self-other-clause-same c = query_decided _ _ c.same.ensures

pub returns-else-self-other-clause-value : goal.returns-else-self-other-clause-value
returns-else-self-other-clause-value c =
    let x = c.args.self.now in
    let y = c.args.other.now in
    ne_eqb x.print y.print c.if-self-other.false ∙ query_differs (query x) (query y) (λ e. c.if-self-other.false (x.tied ∙ ap fingerprint e ∙ sym y.tied))

pub returns-else-self-other-clause-same : goal.returns-else-self-other-clause-same
returns-else-self-other-clause-same c = query_decided _ _ (returns-else-self-other-clause-value c)
