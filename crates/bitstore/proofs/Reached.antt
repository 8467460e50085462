-- A turn of the search among sizes, and the numbers that pass a test as a filter of a range.
use Rattle.std.proofs.Common.{◌≡◌, ℕ, zero, suc, ◌+◌, ◌-◌, ◌<◌, Bool, true, false, cond, List, [], ◌∷◌, ◌++◌, map, length, get_or, take, drop, filter, Some, None, Option, sym, refl, ap, ◌∙◌, subst, append-nil, append_assoc, add-zero, arith, length-drop, length-take, add-one}
use Rattle.std.proofs.lemmas.List.{get_or-drop, get_or-map, get_or-take, length-map}
use Rattle.std.proofs.lemmas.Option.{slice_get-get_or}
use Rattle.std.specs.List.{All, range_with_len, slice_get}
use Rattle.std.specs.Option.{option_map}
use Rattle.facts.proofs.Nth.{none_some}
use Rattle.bitstore.proofs.Groups.{sums_more}
use Rattle.bitstore.proofs.Ranks.{length_listed, listed_ranked}
use Rattle.bitstore.specs.Marks.{Ranked, listed, sums, tally}

-- x is the element i of those from `from` on
module _ {X : Type 0} (v : X → ℕ) (xs : List X) (from i : ℕ) (x : X) (is : x ≡ get_or (take (length xs - from) (drop from xs)) i x)
    (low : i < length (take (length xs - from) (drop from xs))) where
  inside : from + i < length xs
  inside = omega (arith, length-take (length xs - from) (drop from xs), length-drop from xs)

  here : get_or xs (from + i) x ≡ x
  here = sym (is ∙ get_or-take (length xs - from) (drop from xs) i x (omega (arith, inside)) ∙ get_or-drop from xs i x)

  pub turn_size : get_or (map v xs) (from + i) 0 ≡ v x
  turn_size = get_or-map v xs (from + i) x 0 inside ∙ ap v here

  pub turn_sums : sums (map v xs) (from + (i + 1)) ≡ sums (map v xs) (from + i) + v x
  turn_sums = let e : from + (i + 1) ≡ from + i + 1 = omega arith in omega (arith, ap (sums (map v xs)) e, sums_more (map v xs) (from + i), turn_size)

  pub turn_inside : from + i < length (map v xs)
  turn_inside = omega (arith, length-map xs v, inside)

  -- what a call of `size` answers, by what all calls answer
  pub turn_measured : (R : X → ℕ → Type 0) (n : ℕ) → All (λ y. (m : ℕ) → R y m → m ≡ v y) xs → R x n → n ≡ v x
  turn_measured R n all r = all (from + i) x inside n (subst (λ y. R y n) (sym here) r) ∙ ap v here

module _ (p : ℕ → Bool) where
  kept : (b : Bool) (m : ℕ) (ys : List ℕ) → cond b (m ∷ []) [] ++ ys ≡ cond b (m ∷ ys) ys
  kept true m ys = refl
  kept false m ys = refl

  listed_on : (m n : ℕ) → listed p m ++ filter p (range_with_len m n) ≡ listed p (m + n)
  unfolding listed
  listed_on m zero = append-nil (listed p m) ∙ ap (listed p) (sym (add-zero m))
  listed_on m (suc n) =
      let rest = filter p (range_with_len (m + 1) n) in
      let e : suc m + n ≡ m + suc n = omega arith in
      ap (λ (ys : List ℕ). listed p m ++ ys) (sym (kept (p m) m rest)) ∙ sym (append_assoc (listed p m) (cond (p m) (m ∷ []) []) rest)
      ∙ ap (λ (k : ℕ). listed p (suc m) ++ filter p (range_with_len k n)) (add-one m) ∙ listed_on (suc m) n ∙ ap (listed p) e

  pub listed_range : (n : ℕ) → filter p (range_with_len 0 n) ≡ listed p n
  unfolding listed
  listed_range n = listed_on 0 n ∙ ap (listed p) (let e : 0 + n ≡ n = omega arith in e)

  -- the number that `nth` gives
  pub nth_ranked : (n k : ℕ) (r : Option ℕ) → option_map (λ x. x) r ≡ slice_get (filter p (range_with_len 0 n)) k → k < tally p n → (x : ℕ) × (r ≡ Some x) × (x < n) × Ranked p k x
  nth_ranked n k (Some x) e h = let g = listed_ranked p n k x (sym (e ∙ ap (λ (ys : List ℕ). slice_get ys k) (listed_range n))) in (x, refl, g.0, g.1)
  nth_ranked n k None e h =
      let long : k < length (listed p n) = omega (arith, length_listed p n) in
      absurd (none_some (e ∙ ap (λ (ys : List ℕ). slice_get ys k) (listed_range n) ∙ slice_get-get_or (listed p n) k 0 long))
