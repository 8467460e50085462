use Rattle.std.proofs.Common.{◌≡◌, ◌-◌, ◌<◌, ◌≤◌, List, length, take, Some, sym, refl, ◌∙◌, subst, arith, length-take, rules}
use Rattle.distinct.proofs.Distinct.remove.Goals as goal
use Rattle.distinct.proofs.Fronts.{count_within, drop_front, take_front}
use Rattle.distinct.proofs.Shifts.{shift_length, shift_rest, shift_without, without_repeats}
use Rattle.distinct.specs.Removals.{FirstPlace, Without}
use Rattle.distinct.specs.Repeats.{Answers, NoRepeats}
use borrow.Rule.Slice.PartMut.{put_mid}

pub offset_bounds-self-i : goal.offset_bounds-self-i
offset_bounds-self-i g c =
    let s = c.args.self.now in
    let n = count_within s.len s.places.now c.len-count.ensures in
    let l : c.in-Some.i < length s.places.now = omega (arith, c.in-Some.ensures.0) in
    search rules

pub slice_bounds-rotate_left-end : goal.slice_bounds-rotate_left-end
slice_bounds-rotate_left-end g c =
    let s = c.args.self.now in
    let n : c.len-count.result ≤ length s.places.now = count_within s.len s.places.now c.len-count.ensures in
    let l : c.in-Some.i < c.len-count.result = omega (arith, c.in-Some.ensures.0) in
    search rules

pub returns : goal.returns
returns g c =
    let E = Answers g.T.PartialEq.eq in
    let s = c.args.self.now in
    let t = s.places.now in
    let x = c.args.x.now in
    let i = c.in-Some.i in
    let n = c.len-count.result in
    let r = c.rotate_left.new.self in
    let own : take s.len t ≡ take n t = take_front s.len t c.len-count.ensures in
    let place : FirstPlace E (take n t) x (Some i) = subst (λ (ys : List g.row.T.Denot). FirstPlace E ys x (Some i)) own c.in-Some.ensures in
    let long : n ≤ length t = count_within s.len t c.len-count.ensures in
    let low : i < n = omega (arith, place.0, length-take n t) in
    let turned = c.rotate_left.ensures.after in
    let w : Without E x (take n t) (take (n - 1) (put_mid i (n - i) t r)) = shift_without t i n r low long turned E x x place in
    let gone : Without E x (take s.len t) (take (n - 1) (put_mid i (n - i) t r)) = subst (λ (ys : List g.row.T.Denot). Without E x ys (take (n - 1) (put_mid i (n - i) t r))) (sym own) w in
    record {
      removal = (gone, shift_rest t i n r low long turned ∙ sym (drop_front s.len t c.len-count.ensures));
      lent = refl;
      room = shift_length t i n r low long turned;
      distinct = λ old. subst (NoRepeats E) (sym gone.is) (without_repeats E gone.front gone.item gone.back (subst (NoRepeats E) gone.was old));
    }
