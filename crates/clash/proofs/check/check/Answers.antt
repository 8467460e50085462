use Rattle.book.proofs.Listing.{all_lawful}
use Rattle.clash.proofs.Settled.{settled}
use Rattle.clash.proofs.Worlds.{clear, one_blamed, two_blamed}
use Rattle.clash.proofs.check.check.Goals as goal
use Rattle.std.proofs.Common.{Some, None}
use Rattle.vocabulary.specs.declared.facts.Clash.TheVariants.{One, Two}

pub returns-in-Some : goal.returns-in-Some
returns-in-Some g c =
    let book = c.args.book.now in
    let source = c.args.source.now in
    let lawful = all_lawful book.family book.rules.now book.admitted in
    let checked = one_blamed book.family book.rules.now lawful (g.S.Source.facts source) (g.S.Source.fitting source) c.in-Some.ensures in
    record { checked = checked; settled = λ v h. settled book.rules.now (g.S.Source.facts source) (Some (One c.in-Some.f)) v checked h }

pub returns-in_err-f : goal.returns-in_err-f
returns-in_err-f g c =
    let book = c.args.book.now in
    let source = c.args.source.now in
    let lawful = all_lawful book.family book.rules.now book.admitted in
    let checked = clear book.family book.rules.now lawful (g.S.Source.facts source) (g.S.Source.fitting source) c.in_default.ensures c.in_err-f.ensures in
    rw c.from_residual.ensures
    record { checked = checked; settled = λ v h. settled book.rules.now (g.S.Source.facts source) None v checked h }

pub returns : goal.returns
returns g c =
    let book = c.args.book.now in
    let source = c.args.source.now in
    let lawful = all_lawful book.family book.rules.now book.admitted in
    let checked = two_blamed book.family book.rules.now lawful (g.S.Source.facts source) (g.S.Source.fitting source) c.in_default.ensures c.in_ok-f.ensures in
    record { checked = checked; settled = λ v h. settled book.rules.now (g.S.Source.facts source) (Some (Two c.in_ok-f.f c.in_ok-f.g)) v checked h }
