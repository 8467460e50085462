use Rattle.book.proofs.Reading.{told}
use Rattle.book.proofs.book.Book.classes_apart.Goals as goal
use Rattle.theory.proofs.Closed.{excluded}
use Rattle.theory.specs.Closure.{classes}
use Rattle.vocabulary.specs.Codes.{basic_below}

pub returns : goal.returns
returns c =
    let s = c.args.self.now in
    let x = c.args.b in
    let y = c.args.c in
    told c.shown.result (excluded s.family s.rules.now (classes x y)) s.closed
    (λ h o. (h.of_classes x y o.first o.second).0 o.on.set)
    (λ h e.
    let fits = h.class_range x y e in
    record { first = fits.0; second = fits.1; on = record { row = basic_below x fits.0; column = basic_below y fits.1; set = (h.of_classes x y fits.0 fits.1).1 e } })
    c.shown.ensures
