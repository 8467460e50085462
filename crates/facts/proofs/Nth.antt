-- Places of a list by `nth`, which is `None` past the end.
use Rattle.std.proofs.Common.{◌≡◌, ℕ, zero, suc, ◌+◌, ◌<◌, ◌⊎◌, List, [], ◌∷◌, ◌++◌, length, drop, Some, None, Option, sym, refl, ap, ◌∙◌, inl, inr, arith}
use Rattle.distinct.specs.Repeats.{Different}
use Rattle.std.proofs.lemmas.List.{drop_all}
use Rattle.std.proofs.lemmas.Option.{slice_get-get_or}
use Rattle.std.specs.List.{slice_get, AllByRecursion}
use mathlib.Core.List.{Memᴰ}

module _ {X : Type 0} where
  pub none_some : {x : X} → ◌≡◌ {A = Option X} None (Some x) → ⊥
  none_some p = let z : ◌≡◌ {A = ℕ} 0 1 = cc in omega arith

  pub some_inj : {x y : X} → ◌≡◌ {A = Option X} (Some x) (Some y) → x ≡ y
  some_inj p = cc

  pub nth_within : (xs : List X) (k : ℕ) (x : X) → slice_get xs k ≡ Some x → k < length xs
  nth_within [] k x p = absurd (none_some p)
  nth_within (y ∷ ys) zero x p = omega arith
  nth_within (y ∷ ys) (suc k) x p = let h = nth_within ys k x p in omega arith

  pub nth_more : (xs ys : List X) (k : ℕ) (y : X) → slice_get xs k ≡ Some y → slice_get (xs ++ ys) k ≡ Some y
  nth_more [] ys k y p = absurd (none_some p)
  nth_more (z ∷ zs) ys zero y p = p
  nth_more (z ∷ zs) ys (suc k) y p = nth_more zs ys k y p

  -- the last place of a list with one element more
  pub nth_push_new : (xs : List X) (x : X) → slice_get (xs ++ x ∷ []) (length xs) ≡ Some x
  nth_push_new [] x = refl
  nth_push_new (z ∷ zs) x = nth_push_new zs x

  pub nth_push_cases : (xs : List X) (x : X) (k : ℕ) (y : X) → slice_get (xs ++ x ∷ []) k ≡ Some y → (slice_get xs k ≡ Some y) ⊎ ((k ≡ length xs) × (x ≡ y))
  nth_push_cases [] x zero y p = inr (refl, some_inj p)
  nth_push_cases [] x (suc k) y p = absurd (none_some p)
  nth_push_cases (z ∷ zs) x zero y p = inl p
  nth_push_cases (z ∷ zs) x (suc k) y p =
      elim (nth_push_cases zs x k y p) [ inl h ↦ inl h | inr h ↦ inr (ap suc h.0, h.1) ]

  -- what is left from a place on
  pub nth_drop : (xs : List X) (k : ℕ) (x : X) → slice_get xs k ≡ Some x → drop k xs ≡ x ∷ drop (k + 1) xs
  nth_drop [] k x p = absurd (none_some p)
  nth_drop (y ∷ ys) zero x p = ap (λ (z : X). z ∷ ys) (some_inj p)
  nth_drop (y ∷ ys) (suc k) x p =
      let e : suc (k + 1) ≡ suc k + 1 = omega arith in
      nth_drop ys k x p ∙ ap (λ (m : ℕ). x ∷ drop m (y ∷ ys)) e

  pub nth_drop_none : (xs : List X) (k : ℕ) → slice_get xs k ≡ None → drop k xs ≡ []
  nth_drop_none [] k p = drop_all k [] (omega arith)
  nth_drop_none (y ∷ ys) zero p = absurd (none_some (sym p))
  nth_drop_none (y ∷ ys) (suc k) p = nth_drop_none ys k p

  -- a member is what stands at a place
  pub member_nth : {x : X} {xs : List X} → Memᴰ x xs → (k : ℕ) × (slice_get xs k ≡ Some x)
  member_nth (Memᴰ.head p) = (0, ap Some (sym p))
  member_nth (Memᴰ.tail m) = let (k, e) = member_nth m in (suc k, e)

  pub nth_member : (xs : List X) (k : ℕ) (x : X) → slice_get xs k ≡ Some x → Memᴰ x xs
  nth_member [] k x p = absurd (none_some p)
  nth_member (y ∷ ys) zero x p = Memᴰ.head (sym (some_inj p))
  nth_member (y ∷ ys) (suc k) x p = Memᴰ.tail (nth_member ys k x p)

  -- what holds of what stands at any place holds of all
  pub all_from_nth : (P : X → Type 0) (xs : List X) → ((k : ℕ) (x : X) → slice_get xs k ≡ Some x → P x) → AllByRecursion P xs
  all_from_nth P [] f = tt
  all_from_nth P (x ∷ xs) f = (f 0 x refl, all_from_nth P xs (λ k y p. f (suc k) y p))

  -- where nothing stands at two places, all elements are different
  pub different_from_nth : (xs : List X) → ((i j : ℕ) (x : X) → slice_get xs i ≡ Some x → slice_get xs j ≡ Some x → i ≡ j) → Different xs
  different_from_nth xs f i j d b e =
      let less : i < j = b.0 in
      let long : j < length xs = b.1 in
      let same = f i j _ (slice_get-get_or xs i d (omega arith) ∙ ap Some e) (slice_get-get_or xs j d long) in
      omega arith
