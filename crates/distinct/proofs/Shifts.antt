-- The items behind a place move up by one, and the item of that place goes behind them.
use Rattle.std.proofs.Common.{◌≡◌, ℕ, zero, suc, ◌+◌, ◌-◌, ◌<◌, ◌≤◌, Bool, true, List, [], ◌∷◌, ◌++◌, length, get_or, take, drop, Some, sym, refl, ap, ◌∙◌, subst, inl, inr, append_assoc, arith, length-append, length-drop, length-take, get_or-take}
use Rattle.distinct.specs.Removals.{FirstPlace, Without}
use Rattle.distinct.specs.Repeats.{Absent, NoRepeats}
use Rattle.std.proofs.lemmas.List.Edits.{length-paste}
use Rattle.std.proofs.lemmas.List.{drop-drop, get_or_append_left, get_or-append_right, take_all, take-append-le}
use Rattle.std.proofs.lemmas.Slice.{drop-put_mid, put_mid-paste, take-put_mid}
use Rattle.std.proofs.lemmas.Bool.{cases_lt}
use borrow.Rule.Slice.PartMut.{put_mid}

module _ {X : Type 0} where
  pub take_take : (i n : ℕ) (t : List X) → i ≤ n → take i (take n t) ≡ take i t
  take_take zero n t h = refl
  take_take (suc i) zero t h = absurd (omega arith)
  take_take (suc i) (suc n) [] h = refl
  take_take (suc i) (suc n) (x ∷ t) h = ap (λ (ys : List X). x ∷ ys) (take_take i n t (omega arith))

  -- the first n, by the item at one of their places
  take_out : (t : List X) (n i : ℕ) (d : X) → i < n → n ≤ length t → take n t ≡ take i t ++ get_or t i d ∷ drop 1 (take (n - i) (drop i t))
  take_out t zero i d l h = absurd (omega arith)
  take_out [] (suc m) i d l h = absurd (omega arith)
  take_out (x ∷ xs) (suc m) zero d l h = let e : suc m ≡ suc m - 0 = omega arith in ap (λ (k : ℕ). x ∷ drop 1 (take k (x ∷ xs))) e
  take_out (x ∷ xs) (suc m) (suc j) d l h =
      let e : m - j ≡ suc m - suc j = omega arith in
      ap (λ (ys : List X). x ∷ ys) (take_out xs m j d (omega arith) (omega arith) ∙ ap (λ (k : ℕ). take j xs ++ get_or xs j d ∷ drop 1 (take k (drop j xs))) e)

-- the places t from i to n turned by one, so that they hold r
module _ {X : Type 0} (t : List X) (i n : ℕ) (r : List X) (low : i < n) (long : n ≤ length t) (turned : r ≡ drop 1 (take (n - i) (drop i t)) ++ take 1 (take (n - i) (drop i t))) where
  abbrev part : List X
  part = take (n - i) (drop i t)

  abbrev after : List X
  after = put_mid i (n - i) t r

  part_length : length part ≡ n - i
  part_length = omega (arith, length-take (n - i) (drop i t), length-drop i t)

  turned_length : length r ≡ n - i
  turned_length = omega (arith, ap length turned, length-append (drop 1 part) (take 1 part), length-drop 1 part, length-take 1 part, part_length)

  pub shift_length : length after ≡ length t
  shift_length = ap length (put_mid-paste i (n - i) t r r (n - i) refl refl (sym turned_length)) ∙ length-paste t i r (n - i) (omega arith) (omega (arith, turned_length))

  pub shift_front : take (n - 1) after ≡ take i t ++ drop 1 part
  shift_front =
      let left : List X = take i t ++ drop 1 part in
      let size : length left ≡ n - 1 = omega (arith, length-append (take i t) (drop 1 part), length-take i t, length-drop 1 part, part_length) in
      sym (take_take (n - 1) n after (omega arith))
      ∙ ap (take (n - 1)) (take-put_mid i (n - i) t r n (omega (arith, turned_length)) (omega arith) ∙ ap (λ (ys : List X). take i t ++ ys) turned ∙ sym (append_assoc (take i t) (drop 1 part) (take 1 part)))
      ∙ take-append-le (n - 1) left (take 1 part) (omega arith)
      ∙ take_all (n - 1) left (omega arith)

  pub shift_rest : drop 1 (drop (n - 1) after) ≡ drop n t
  shift_rest =
      drop-drop 1 (n - 1) after
      ∙ ap (λ (m : ℕ). drop m after) (let e : n - 1 + 1 ≡ n = omega arith in e)
      ∙ drop-put_mid i (n - i) t r n (omega arith) (omega arith) turned_length

  pub shift_without : (E : X → X → Bool → Type 0) (x y : X) → FirstPlace E (take n t) x (Some i) → Without E x (take n t) (take (n - 1) after)
  shift_without E x y p = record {
    front = take i t;
    item = get_or t i y;
    back = drop 1 part;
    was = take_out t n i y low long;
    is = shift_front;
    equal = subst (λ (z : X). E z x true) (rw get_or-take) (p.1 y);
    first = subst (λ (ys : List X). Absent E ys x) (take_take i n t (omega arith)) p.2;
  }

-- what is left of a list without repeats has none
module _ {X : Type 0} (E : X → X → Bool → Type 0) (front : List X) (y : X) (back : List X) where
  before : (i : ℕ) (d : X) → i < length front → get_or (front ++ back) i d ≡ get_or (front ++ y ∷ back) i d
  before i d h = get_or_append_left front back d i h ∙ sym (get_or_append_left front (y ∷ back) d i h)

  behind : (i : ℕ) (d : X) → length front ≤ i → get_or (front ++ back) i d ≡ get_or (front ++ y ∷ back) (suc i) d
  behind i d h =
      get_or-append_right front back (length front) i d refl h
      ∙ ap (λ (k : ℕ). get_or (y ∷ back) k d) (let e : suc (i - length front) ≡ suc i - length front = omega arith in e)
      ∙ sym (get_or-append_right front (y ∷ back) (length front) (suc i) d refl (omega arith))

  pub without_repeats : NoRepeats E (front ++ y ∷ back) → NoRepeats E (front ++ back)
  without_repeats old i j d b =
      let less : i < j = b.0 in
      let inside : suc j < length (front ++ y ∷ back) = omega (arith, b.1, length-append front back, length-append front (y ∷ back)) in
      elim (cases_lt i (length front)) [
        | inl p ↦ elim (cases_lt j (length front)) [
          | inl q ↦ rw (before i d p, before j d q) (old i j d (less, omega arith))
          | inr q ↦ rw (before i d p, behind j d q) (old i (suc j) d (omega arith, inside))
        ]
        | inr p ↦ let q : length front ≤ j = omega arith in rw (behind i d p, behind j d q) (old (suc i) (suc j) d (omega arith, inside))
      ]
