use Rattle.book.proofs.Reading.{told}
use Rattle.book.proofs.book.Book.links_apart.Goals as goal
use Rattle.theory.proofs.Closed.{excluded}
use Rattle.theory.specs.Closure.{links}
use Rattle.vocabulary.specs.Codes.{directed_below}

pub returns : goal.returns
returns c =
    let s = c.args.self.now in
    let x = c.args.d in
    let y = c.args.e in
    told c.shown.result (excluded s.family s.rules.now (links x y)) s.closed
    (λ h o. (h.of_links x y o.first o.second).0 o.on.set)
    (λ h e.
    let fits = h.link_range x y e in
    record { first = fits.0; second = fits.1; on = record { row = directed_below x fits.0; column = directed_below y fits.1; set = (h.of_links x y fits.0 fits.1).1 e } })
    c.shown.ensures
