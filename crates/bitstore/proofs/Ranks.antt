-- The numbers below m that pass a test: how many there are, and which stands at a place.
use Rattle.std.specs.Prelude.{◌≡◌, ℕ, zero, suc, ◌+◌, ◌-◌, ◌<◌, ◌≤◌, Bool, true, false, cond, List, [], ◌∷◌, ◌++◌, length, Some}
use Rattle.std.proofs.Math.ListN.{length-append}
use mathlib.Core.List.{append-nil, append_assoc}
use Rattle.std.proofs.Math.Logic.{inl, inr}
use Rattle.std.proofs.Math.Path.{refl, ap, ap₂, subst}
use Rattle.std.proofs.Common.{sym, ◌∙◌}
use native.Mathlib.Omega.{arith}
use Rattle.std.specs.List.{slice_get}
use Rattle.std.proofs.lemmas.Bool.{cases_eq, cases_lt, false≢true}
use Rattle.facts.proofs.Nth.{none_some, nth_more, nth_push_cases, nth_push_new}
use Rattle.bitstore.specs.Marks.{tally, listed, OneMore, Ranked}

one_length : (b : Bool) (m : ℕ) → length (cond b (m ∷ []) []) ≡ cond b 1 0
one_length true m = refl
one_length false m = refl

module _ (p : ℕ → Bool) where
  pub length_listed : (m : ℕ) → length (listed p m) ≡ tally p m
  unfolding listed tally
  length_listed zero = refl
  length_listed (suc m) =
      length-append (listed p m) (cond (p m) (m ∷ []) []) ∙ ap₂ (λ (x y : ℕ). x + y) (length_listed m) (one_length (p m) m)

  step_listed : (m i x : ℕ) (b : Bool) → p m ≡ b → ((y : ℕ) → slice_get (listed p m) i ≡ Some y → (y < m) × Ranked p i y)
      → slice_get (listed p m ++ cond b (m ∷ []) []) i ≡ Some x → (x < suc m) × Ranked p i x
  step_listed m i x false e ih h =
      let g = ih x (subst (λ (ys : List ℕ). slice_get ys i ≡ Some x) (append-nil (listed p m)) h) in
      (omega (arith, g.0), g.1)
  step_listed m i x true e ih h =
      elim (nth_push_cases (listed p m) m i x h) [
        | inl o ↦ let g = ih x o in (omega (arith, g.0), g.1)
        | inr o ↦
            let here : p x ≡ true = subst (λ (y : ℕ). p y ≡ true) o.1 e in
            let at : tally p x ≡ i = ap (tally p) (sym o.1) ∙ sym (length_listed m) ∙ sym o.0 in
            (omega (arith, o.1), record { on = here; rank = at })
      ]

  -- what stands at a place is below m, passes, and has as many before it as its place says
  pub listed_ranked : (m i x : ℕ) → slice_get (listed p m) i ≡ Some x → (x < m) × Ranked p i x
  unfolding listed
  listed_ranked zero i x h = absurd (none_some h)
  listed_ranked (suc m) i x h = step_listed m i x (p m) refl (λ y. listed_ranked m i y) h

  last_listed : (m i : ℕ) (b : Bool) → b ≡ true → tally p m ≡ i → slice_get (listed p m ++ cond b (m ∷ []) []) i ≡ Some m
  last_listed m i true e r =
      subst (λ (j : ℕ). slice_get (listed p m ++ m ∷ []) j ≡ Some m) (length_listed m ∙ r) (nth_push_new (listed p m) m)
  last_listed m i false e r = absurd (false≢true e)

  -- and the other way round
  pub ranked_listed : (m i x : ℕ) → x < m → Ranked p i x → slice_get (listed p m) i ≡ Some x
  unfolding listed
  ranked_listed zero i x h r = absurd (omega arith)
  ranked_listed (suc m) i x h r =
      elim (cases_eq x m) [
        | inl e ↦
            subst (λ (y : ℕ). slice_get (listed p m ++ cond (p m) (m ∷ []) []) i ≡ Some y) (sym e)
            (last_listed m i (p m) (subst (λ (y : ℕ). p y ≡ true) e r.on) (subst (λ (y : ℕ). tally p y ≡ i) e r.rank))
        | inr ne ↦ nth_more (listed p m) (cond (p m) (m ∷ []) []) i x (ranked_listed m i x (omega arith) r)
      ]

  pub tally_zero : tally p 0 ≡ 0
  unfolding tally
  tally_zero = refl

  -- a number that passes has fewer before it than there are
  pub tally_le : (m d : ℕ) → tally p m ≤ tally p (m + d)
  unfolding tally
  tally_le m zero = subst (λ (x : ℕ). tally p m ≤ tally p x) (let e : m ≡ m + 0 = omega arith in e) (omega arith)
  tally_le m (suc d) = subst (λ (x : ℕ). tally p m ≤ tally p x) (let e : suc (m + d) ≡ m + suc d = omega arith in e) (omega (arith, tally_le m d))

  pub tally_none : (m : ℕ) → ((x : ℕ) → p x ≡ false) → tally p m ≡ 0
  unfolding tally
  tally_none zero f = refl
  tally_none (suc m) f = ap₂ (λ (x : ℕ) (b : Bool). x + cond b 1 0) (tally_none m f) (f m)

module _ (p q : ℕ → Bool) where
  pub tally_same : (m : ℕ) → ((x : ℕ) → x < m → q x ≡ p x) → tally q m ≡ tally p m
  unfolding tally
  tally_same zero f = refl
  tally_same (suc m) f =
      ap₂ (λ (x : ℕ) (b : Bool). x + cond b 1 0) (tally_same m (λ x h. f x (omega arith))) (f m (omega arith))

  module _ (k : ℕ) (o : OneMore k p q) where
    pub tally_before : (m : ℕ) → m ≤ k → tally q m ≡ tally p m
    tally_before m h = tally_same m (λ x g. o.others x (λ e. absurd (omega arith)))

    pub tally_after : (m : ℕ) → k < m → tally q m ≡ tally p m + 1
    unfolding tally
    tally_after zero h = absurd (omega arith)
    tally_after (suc m) h =
        elim (cases_eq k m) [
          | inl e ↦
              let a : tally q m ≡ tally p m = tally_before m (omega arith) in
              let b : ◌≡◌ {A = ℕ} (cond (q m) 1 0) 1 = ap (λ (v : Bool). cond v 1 0) (subst (λ (y : ℕ). q y ≡ true) e o.on) in
              let c : ◌≡◌ {A = ℕ} (cond (p m) 1 0) 0 = ap (λ (v : Bool). cond v 1 0) (subst (λ (y : ℕ). p y ≡ false) e o.off) in
              omega arith
          | inr ne ↦
              let a : tally q m ≡ tally p m + 1 = tally_after m (omega arith) in
              let b : ◌≡◌ {A = ℕ} (cond (q m) 1 0) (cond (p m) 1 0) = ap (λ (v : Bool). cond v 1 0) (o.others m (λ e. absurd (ne (sym e)))) in
              omega arith
        ]

-- fewer pass below a than below b
pub fewer : (p : ℕ → Bool) (a b : ℕ) → tally p a < tally p b → a < b
fewer p a b h =
    elim (cases_lt a b) [
      | inl lt ↦ lt
      | inr ge ↦
          let e : b + (a - b) ≡ a = omega arith in
          absurd (omega (arith, tally_le p b (a - b), ap (tally p) e))
    ]

-- ---- the list itself

module _ (p q : ℕ → Bool) where
  listed_same : (m : ℕ) → ((x : ℕ) → x < m → q x ≡ p x) → listed q m ≡ listed p m
  unfolding listed
  listed_same zero f = refl
  listed_same (suc m) f =
      ap₂ (λ (xs : List ℕ) (b : Bool). xs ++ cond b (m ∷ []) []) (listed_same m (λ x h. f x (omega arith))) (f m (omega arith))

  -- k stands in q's list at one place, and all else is as in p's
  pub listed_put : (k : ℕ) → OneMore k p q → (m : ℕ) → k < m
      → (front : List ℕ) × (back : List ℕ) × (listed p m ≡ front ++ back) × (listed q m ≡ front ++ k ∷ back)
  unfolding listed
  listed_put k o zero h = absurd (omega arith)
  listed_put k o (suc m) h =
      elim (cases_eq k m) [
        | inl e ↦
            let same : listed q m ≡ listed p m = listed_same m (λ x g. o.others x (λ z. absurd (omega arith))) in
            let off : p m ≡ false = subst (λ (y : ℕ). p y ≡ false) e o.off in
            let on : q m ≡ true = subst (λ (y : ℕ). q y ≡ true) e o.on in (
              listed p m,
              [],
              ap (λ (b : Bool). listed p m ++ cond b (m ∷ []) []) off,
              ap₂ (λ (xs : List ℕ) (b : Bool). xs ++ cond b (m ∷ []) []) same on ∙ ap (λ (y : ℕ). listed p m ++ y ∷ []) (sym e),
            )
        | inr ne ↦
            let ih = listed_put k o m (omega arith) in
            let ys : List ℕ = cond (p m) (m ∷ []) [] in
            let like : q m ≡ p m = o.others m (λ z. absurd (ne (sym z))) in (
              ih.0,
              ih.1 ++ ys,
              ap (λ (xs : List ℕ). xs ++ ys) ih.2 ∙ append_assoc ih.0 ih.1 ys,
              ap₂ (λ (xs : List ℕ) (b : Bool). xs ++ cond b (m ∷ []) []) ih.3 like ∙ append_assoc ih.0 (k ∷ ih.1) ys,
            )
      ]
