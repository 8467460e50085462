use Rattle.std.proofs.Common.{sym, arith}
use Rattle.bitstore.proofs.Groups.{ones_tally}
use Rattle.bitstore.proofs.scan.weight.Goals as goal

pub returns : goal.returns
returns c = sym (ones_tally 8 c.args.byte (omega arith))
