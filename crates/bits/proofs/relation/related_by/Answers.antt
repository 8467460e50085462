use Rattle.bits.proofs.Places.{pair_bit}
use Rattle.bits.proofs.relation.related_by.Goals as goal
use Rattle.bits.specs.Words.{bit}
use Rattle.std.proofs.Common.{sym, ap, ◌∙◌}

pub returns-in-Some : goal.returns-in-Some
returns-in-Some c =
    let t = c.args.words.now in
    let (ha, hb, e) = c.in-Some.ensures in
    let same = pair_bit c.args.stride t c.args.a c.args.b ∙ sym (c.get.ensures ∙ ap (bit t) e) in (
      λ h. record { row = ha; column = hb; set = same ∙ h },
      λ o. sym same ∙ o.set,
    )
