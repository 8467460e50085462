use Rattle.bitstore.proofs.layout.listing_ascends.Goals as goal
use Rattle.bitstore.proofs.Held.{facts_order}

pub returns : goal.returns
returns c = facts_order
