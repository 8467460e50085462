use Rattle.std.proofs.Common.{subst}
use Rattle.book.proofs.Applying.{apart_turned}
use Rattle.book.proofs.Growing.{excluded, narrowed}
use Rattle.book.proofs.Steps.{adds_like}
use Rattle.book.proofs.closure.Closure.apply.Goals as goal
use Rattle.book.specs.Growth.{tables}
use Rattle.theory.specs.Closure.{apart, narrow}
use Rattle.vocabulary.specs.Ranges.{RuleFits}

pub returns-in-Within : goal.returns-in-Within
returns-in-Within c =
    let fits = subst RuleFits c.in-Within.is c.requires in
    rw c.in-Within.is
    (adds_like (λ x m z h. narrow m h) (λ i. i) (narrowed c.in-Within.b c.in-Within.c fits.0 fits.1 c.narrow.ensures (tables c.args.self.now).1))

pub returns-in-Apart : goal.returns-in-Apart
returns-in-Apart c =
    let fits = subst RuleFits c.in-Apart.is c.requires in
    rw c.in-Apart.is
    (adds_like (λ x m. apart m) (λ i. i) (excluded c.in-Apart.b c.in-Apart.c fits.0 fits.1 c.exclude.ensures (tables c.args.self.now).1))

pub returns-in-LinkApart : goal.returns-in-LinkApart
returns-in-LinkApart c =
    let fits = subst RuleFits c.in-LinkApart.is c.requires in
    rw c.in-LinkApart.is
    (apart_turned c.in-LinkApart.d c.in-LinkApart.e c.turn.result c.turn-in-LinkApart.result fits.0 fits.1 c.turn.ensures c.turn-in-LinkApart.ensures
    (tables c.args.self.now).0 c.exclude-any.ensures c.exclude-any-in-LinkApart.ensures)
