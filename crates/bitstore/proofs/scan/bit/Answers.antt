use Rattle.bitstore.proofs.scan.bit.Goals as goal
use Rattle.bitstore.specs.Marks.{bit_at}

pub returns : goal.returns
unfolding bit_at
returns c = c.bit_in.ensures
