use Rattle.bits.proofs.Words.{marked_inside, marked_past}
use Rattle.bits.proofs.table.Bits.set.Goals as goal

pub returns-then-i-self : goal.returns-then-i-self
returns-then-i-self c = marked_inside c.args.self.now.words.now c.args.m c.if-i-self.true

pub returns-else-i-self : goal.returns-else-i-self
returns-else-i-self c = marked_past c.args.self.now.words.now c.args.m c.if-i-self.false
