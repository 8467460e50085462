use Rattle.std.proofs.Common.{ℕ, ◌+◌, ◌<◌, length, take, sym, refl, ◌∙◌, subst, arith, length-set}
use Rattle.distinct.proofs.Distinct.put.Goals as goal
use Rattle.distinct.proofs.Fronts.{rest_some}
use Rattle.distinct.proofs.Pushes.{no_repeats_push}
use Rattle.distinct.specs.Repeats.{Absent, Answers, NoRepeats}
use Rattle.std.proofs.lemmas.List.{take_more_set, drop-set-lt, drop-drop, drop_all}

pub returns-then-n-self : goal.returns-then-n-self
returns-then-n-self g c =
    let s = c.args.self.now in
    record {
      outcome = (c.if-has.ensures, drop_all s.len s.places.now c.if-n-self.true, refl, refl);
      room = refl;
      lent = refl;
      distinct = λ old. old;
    }

pub returns : goal.returns
returns g c =
    let s = c.args.self.now in
    let xs = s.places.now in
    let n : ℕ = s.len in
    let x = c.args.x in
    let l : n < length xs = c.if-n-self.false in
    let E = Answers g.T.PartialEq.eq in
    let new : Absent E (take n xs) x = c.if-has.ensures in
    let more = take_more_set xs n x l in
    record {
      outcome = (new, rest_some n xs l, more, drop-set-lt (n + 1) xs n x (omega arith) ∙ sym (drop-drop 1 n xs));
      room = length-set xs n x;
      lent = refl;
      distinct = λ old. subst (NoRepeats E) (sym more) (no_repeats_push E (take n xs) x old new);
    }
