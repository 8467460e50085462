-- What setting bits does to a table as a relation.
use Rattle.std.proofs.Common.{◌≡◌, ℕ, zero, suc, ◌+◌, ◌*◌, ◌/◌, ◌%◌, ◌<◌, Bool, true, false, ◌||◌, ◌==◌, ◌⊎◌, List, [], ◌∷◌, length, replicate, sym, refl, ap, ◌∙◌, subst, inl, inr, arith}
use Rattle.bits.proofs.Counting.{marked_le, marked_lt}
use Rattle.bits.proofs.Places.{pair_bit, place_same, place_inside}
use Rattle.bits.proofs.Words.{bit_of_or, bit_zeros}
use Rattle.bits.specs.Relations.{pair, On, Symmetric, Joined, Inherited, base, flip, pass, Grows, Covers}
use Rattle.bits.specs.Words.{Marked, bit_of, word}
use Rattle.std.proofs.lemmas.Bool.{cases_eq, cases_Bool, false≢true, true≢false, or_cases, or_left, or_parts, and_parts, eqb-true}
use Rattle.std.specs.Int.Bits.{bit_or}
use Rattle.std.specs.List.{list_all, zip}

-- a table of zeros relates nothing
pub pair_zeros : (stride n a b : ℕ) → pair stride (replicate n 0) a b ≡ false
pair_zeros stride n a b = pair_bit stride (replicate n 0) a b ∙ bit_zeros n (64 * (stride * a) + b)

-- ---- one bit

at_or_off : (x y a b : ℕ) → ((x ≡ a) × (y ≡ b)) ⊎ ((x ≡ a) × (y ≡ b) → ⊥)
at_or_off x y a b =
    elim (cases_eq x a) [
      | inr ne ↦ inr (λ h. ne h.0)
      | inl e ↦ elim (cases_eq y b) [ inr ne ↦ inr (λ h. ne h.1) | inl f ↦ inl (e, f) ]
    ]

module _ (stride a b : ℕ) (s t : List ℕ) (ha : a < 64 * stride) (hb : b < 64 * stride) (m : Marked (64 * (stride * a) + b) s t) where
  marked_here : length s ≡ 64 * (stride * stride) → On stride t a b
  marked_here size = record {
    row = ha;
    column = hb;
    set = pair_bit stride t a b ∙ m.here (let h = place_inside stride a b ha hb in omega arith);
  }

  marked_off : (x y : ℕ) → y < 64 * stride → ((x ≡ a) × (y ≡ b) → ⊥) → pair stride t x y ≡ pair stride s x y
  marked_off x y hy ne =
      pair_bit stride t x y
      ∙ m.others (64 * (stride * x) + y) (λ e. ne (place_same stride a b x y hb hy e))
      ∙ sym (pair_bit stride s x y)

  marked_more : length s ≡ 64 * (stride * stride) → (x y : ℕ) → On stride s x y → On stride t x y
  marked_more size x y h =
      elim (at_or_off x y a b) [
        | inl e ↦ rw (e.0, e.1) (marked_here size)
        | inr off ↦ record { row = h.row; column = h.column; set = marked_off x y h.column off ∙ h.set }
      ]

  marked_new : (x y : ℕ) → On stride t x y → On stride s x y ⊎ ((x ≡ a) × (y ≡ b))
  marked_new x y h =
      elim (at_or_off x y a b) [
        | inl e ↦ inr e
        | inr off ↦ inl (record { row = h.row; column = h.column; set = sym (marked_off x y h.column off) ∙ h.set })
      ]

-- ---- a relation and its tests

same_test : (x y : Bool) → (x ≡ true → y ≡ true) → (y ≡ true → x ≡ true) → x ≡ y
same_test true y f g = sym (f refl)
same_test false true f g = g refl
same_test false false f g = refl

pub symmetric_on : {stride : ℕ} {t : List ℕ} → Symmetric stride t → (x y : ℕ) → On stride t x y → On stride t y x
symmetric_on h x y o = record { row = o.column; column = o.row; set = sym (h x y (o.row, o.column)) ∙ o.set }

-- the test of a pair that is in range and not related
pub off_from : {stride : ℕ} {t : List ℕ} {a b : ℕ} → a < 64 * stride → b < 64 * stride → (On stride t a b → ⊥) → pair stride t a b ≡ false
off_from {stride} {t} {a} {b} ha hb off =
    elim (cases_Bool (pair stride t a b)) [ inl e ↦ absurd (off (record { row = ha; column = hb; set = e })) | inr e ↦ e ]

-- ---- a bit and the one across

module _ (stride a b : ℕ) (s t u : List ℕ) (ha : a < 64 * stride) (hb : b < 64 * stride) (size : length s ≡ 64 * (stride * stride))
    (m : Marked (64 * (stride * a) + b) s t) (n : Marked (64 * (stride * b) + a) t u) where
  size_t : length t ≡ 64 * (stride * stride)
  size_t = m.kept ∙ size

  pub both_sized : length u ≡ 64 * (stride * stride)
  both_sized = n.kept ∙ size_t

  both_more : (x y : ℕ) → On stride s x y → On stride u x y
  both_more x y h = marked_more stride b a t u hb ha n size_t x y (marked_more stride a b s t ha hb m size x y h)

  both_here : On stride u a b
  both_here = marked_more stride b a t u hb ha n size_t a b (marked_here stride a b s t ha hb m size)

  both_across : On stride u b a
  both_across = marked_here stride b a t u hb ha n size_t

  both_new : (x y : ℕ) → On stride u x y → Joined a b (On stride s) x y
  both_new x y h =
      elim (marked_new stride b a t u hb ha n x y h) [
        | inr e ↦ inr (inr e)
        | inl g ↦ elim (marked_new stride a b s t ha hb m x y g) [ inr e ↦ inr (inl e) | inl o ↦ inl o ]
      ]

  pub both_grows : {C : List ℕ → Type 0} → pair stride s a b ≡ false → Grows stride (Joined a b (On stride s)) C true s u
  both_grows off = record {
    more = both_more;
    sound = both_new;
    at_most = omega (arith, marked_le m, marked_le n);
    added = λ _. omega (
      arith,
      marked_le n,
      marked_lt m (let h = place_inside stride a b ha hb in omega arith) (sym (pair_bit stride s a b) ∙ off),
    );
    idle = λ e. absurd (true≢false e);
  }

  both_turned : Symmetric stride s → (x y : ℕ) → On stride u x y → On stride u y x
  both_turned h x y o =
      elim (both_new x y o) [
        | inl g ↦ both_more y x (symmetric_on h x y g)
        | inr g ↦ elim g [ inl e ↦ rw (e.0, e.1) both_across | inr e ↦ rw (e.0, e.1) both_here ]
      ]

  pub both_symmetric : Symmetric stride s → Symmetric stride u
  both_symmetric h x y l =
      same_test (pair stride u x y) (pair stride u y x)
      (λ e. (both_turned h x y (record { row = l.0; column = l.1; set = e })).set)
      (λ e. (both_turned h y x (record { row = l.1; column = l.0; set = e })).set)

-- ---- inheriting, step after step

bind : {from to : ℕ} {S R : ℕ → ℕ → Type 0} → ((x y : ℕ) → S x y → Inherited from to R x y) → {x y : ℕ} → Inherited from to S x y → Inherited from to R x y
bind f (base {x} {y} h) = f x y h
bind f (flip h) = flip (bind f h)
bind f (pass h) = pass (bind f h)

pub grows_none : {stride : ℕ} {D : ℕ → ℕ → Type 0} {C : List ℕ → Type 0} {s : List ℕ} → ((x y : ℕ) → On stride s x y → D x y) → C s → Grows stride D C false s s
grows_none d c = record {
  more = λ x y h. h;
  sound = d;
  at_most = omega arith;
  added = λ e. absurd (false≢true e);
  idle = λ e. (refl, c);
}

-- the answers are joined by `|=`
pub inherits_then : {stride from to : ℕ} {A B C : List ℕ → Type 0} {r q : Bool} {s t u : List ℕ} → ((v : List ℕ) → A v → B v → C v) →
    Grows stride (Inherited from to (On stride s)) A r s t → Grows stride (Inherited from to (On stride t)) B q t u → Grows stride (Inherited from to (On stride s)) C (r || q) s u
inherits_then {A = A} {r = r} {q = q} {u = u} f a b = record {
  more = λ x y h. b.more x y (a.more x y h);
  sound = λ x y h. bind a.sound (b.sound x y h);
  at_most = omega (arith, a.at_most, b.at_most);
  added = λ e. elim (or_cases r q e) [
    | inl g ↦ omega (arith, a.added g, b.at_most)
    | inr g ↦ omega (arith, a.at_most, b.added g)
  ];
  idle = λ e.
      let p = or_parts r q e in
      let x = a.idle p.0 in
      let y = b.idle p.1 in
      (y.0 ∙ x.0, f u (subst A (sym y.0) x.1) y.1);
}

-- one number k, to which `to` is related, is added to `from`
pub inherits_one : {stride from to k : ℕ} {A B : List ℕ → Type 0} {r : Bool} {s t : List ℕ} → On stride s to k → ((v : List ℕ) → A v → B v) →
    Grows stride (Joined from k (On stride s)) A r s t → Grows stride (Inherited from to (On stride s)) B r s t
inherits_one {from = from} {to = to} {k = k} o f a = record {
  more = a.more;
  sound = λ x y n. elim (a.sound x y n) [
    | inl old ↦ base old
    | inr g ↦ elim g [ inl e ↦ rw (e.0, e.1) (pass (base o)) | inr e ↦ rw (e.0, e.1) (flip (pass (base o))) ]
  ];
  at_most = a.at_most;
  added = a.added;
  idle = λ e. let i = a.idle e in (i.0, f _ i.1);
}

-- ---- a row that has every bit of another

pub row_covers : (stride : ℕ) (t : List ℕ) (from to : ℕ) → ((j : ℕ) → j < stride → bit_or (word t (stride * to + j)) (word t (stride * from + j)) ≡ word t (stride * from + j)) →
    from < 64 * stride → Covers stride t from to (64 * stride)
unfolding pair
row_covers stride t from to same h k l o =
    let j : k / 64 < stride = omega arith in
    let x = word t (stride * to + k / 64) in
    let y = word t (stride * from + k / 64) in
    record {
      row = h;
      column = l;
      set = ap (λ (w : ℕ). bit_of w (k % 64)) (sym (same (k / 64) j)) ∙ bit_of_or x y (k % 64) ∙ or_left (bit_of x (k % 64)) (bit_of y (k % 64)) o.set;
    }

-- two rows of which every pair of words passed the test
pub zipped_all : (xs ys : List ℕ) → true ≡ list_all (λ (p : ℕ × ℕ). bit_or p.0 p.1 == p.1) (zip xs ys) → (j : ℕ) → j < length xs → j < length ys → bit_or (word xs j) (word ys j) ≡ word ys j
zipped_all [] ys e j h k = absurd (omega arith)
zipped_all (x ∷ xs) [] e j h k = absurd (omega arith)
zipped_all (x ∷ xs) (y ∷ ys) e zero h k = eqb-true (bit_or x y) y (and_parts (bit_or x y == y) _ (sym e)).0
zipped_all (x ∷ xs) (y ∷ ys) e (suc j) h k = zipped_all xs ys (sym (and_parts (bit_or x y == y) _ (sym e)).1) j (omega arith) (omega arith)
