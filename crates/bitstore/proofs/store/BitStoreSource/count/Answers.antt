use Rattle.std.proofs.Common.{sym, ◌∙◌}
use Rattle.bitstore.proofs.Held.{count_facts}
use Rattle.bitstore.proofs.store.BitStoreSource.count.Goals as goal

pub returns : goal.returns
returns c = let s = c.args.self.now in c.from.ensures ∙ s.held ∙ sym (count_facts s.names s.table.now)
