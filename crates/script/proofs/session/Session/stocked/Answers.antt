use Rattle.std.proofs.Common.{sym, ◌∙◌}
use Rattle.script.proofs.session.Session.stocked.Goals as goal

pub over_bits-requires : goal.over_bits-requires
over_bits-requires g c =
    (c.args.self.now.offered c.in-Some.stock (sym c.take.ensures.value ∙ c.in-Some.is), c.in-Some.stock.possible.1 c.in-Bits.names c.in-Bits.is)
