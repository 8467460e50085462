use Rattle.book.proofs.Listing.{all_fit}
use Rattle.book.proofs.book.Book.reaches.Goals as goal

pub invariant_of-rules : goal.invariant_of-rules
invariant_of-rules c = let s = c.args.self.now in record { fit = ∣ all_fit s.family s.rules.now s.admitted ∣₁ }
