use Rattle.std.proofs.Common.{Decides, sym, ap, rules}
use Rattle.facts.specs.Changes.{NamesBelow}
use Rattle.bitstore.specs.Layout.{position_of}
use Rattle.bitstore.proofs.Places.{located}
use Rattle.bitstore.proofs.layout.bit_of.Goals as goal

pub returns-after-a-names : goal.returns-after-a-names
returns-after-a-names c =
    let n = c.args.names in
    let fits : Decides c.if-a-names.fits (NamesBelow n c.args.fact) = search rules in
    located n c.args.fact c.requires c.if-a-names.fits fits _ (sym (ap (position_of n) c.in-Linked.is)) c.then_some-in-Linked.result c.then_some-in-Linked.ensures
