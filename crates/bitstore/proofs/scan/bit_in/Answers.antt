use Rattle.bits.proofs.Words.{bit_shr}
use Rattle.bitstore.proofs.scan.bit_in.Goals as goal

pub returns : goal.returns
returns c = bit_shr c.args.byte c.args.j
