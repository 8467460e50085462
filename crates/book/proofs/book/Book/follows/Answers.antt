use Rattle.book.proofs.Listing.{all_lawful}
use Rattle.book.proofs.book.Book.follows.Goals as goal
use Rattle.std.proofs.lemmas.Bool.Decides.{Decides-like}
use Rattle.theory.proofs.Follows.{follows}
use Rattle.std.proofs.Common.{refl}

pub returns : goal.returns
returns c =
    let s = c.args.self.now in
    let tells = follows s.family s.rules.now (all_lawful s.family s.rules.now s.admitted) c.args.rule in
    (c.if-not-fits.ensures.0 refl, Decides-like c.implies.result tells.1 tells.0 c.implies.ensures)
