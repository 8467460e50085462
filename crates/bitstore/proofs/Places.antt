-- A fact and its bit: each is got back from the other, and bits ascend as the listing does.
use Rattle.std.specs.Prelude.{◌≡◌, ℕ, ◌+◌, ◌-◌, ◌*◌, ◌/◌, ◌%◌, ◌<◌, ◌≤◌, Bool, true, false, cond, ◌&&◌, ◌||◌, ◌⊎◌, ◌==◌, Decides, Some, None, Option, nat_lt, refl}
use Rattle.std.proofs.lemmas.Nat.{div-add-mod', mul-add-lt, div-mul-add, mod-mul-add, div_below, mod_below, mul-le}
use Rattle.std.proofs.lemmas.Bool.{and_from, cases_lt, cases_order, eq-eqb, le-ltb, false≢true, lt-ltb, or_left, or_right}
use Rattle.std.proofs.Common.{inl, inr, sym, ap, ap₂, ◌∙◌, subst, mul_assoc, mul_comm, add-mul, mul-le-mul_right, arith}
use Rattle.facts.proofs.Nth.{none_some, some_inj}
use Rattle.std.specs.Bool.{then_some}
use Rattle.vocabulary.specs.declared.facts.Fact.{Fact}
use Rattle.vocabulary.specs.declared.facts.Fact.TheVariants.{InClass, Linked}
use Rattle.bitstore.specs.Layout.{Located, bits, fact_of, link_of, position_of}
use Rattle.facts.specs.Changes.{NamesBelow}
use Rattle.facts.specs.Listings.{earlier}

pub class_at : (n x : ℕ) → x < 64 * n → fact_of n x ≡ InClass (record { 0 = x / n }) (record { 0 = x % n })
unfolding fact_of
class_at n x h = ap (λ (b : Bool). cond b (InClass (record { 0 = x / n }) (record { 0 = x % n })) (link_of n (x - 64 * n))) (lt-ltb x (64 * n) h)

pub link_at : (n x : ℕ) → 64 * n ≤ x → fact_of n x ≡ link_of n (x - 64 * n)
unfolding fact_of
link_at n x h = ap (λ (b : Bool). cond b (InClass (record { 0 = x / n }) (record { 0 = x % n })) (link_of n (x - 64 * n))) (le-ltb x (64 * n) h)

pub pos_below : (n : ℕ) (f : Fact) → NamesBelow n f → position_of n f < bits n
pos_below n (InClass c a) h = omega (arith, mul-add-lt c.0 n a.0 64 h.0 h.1)
pos_below n (Linked l a b) h =
    let inner : l.0 * n + a.0 < n * 32 = mul-add-lt l.0 n a.0 32 h.0 h.1 in
    let outer : (l.0 * n + a.0) * n + b.0 < n * (n * 32) = mul-add-lt (l.0 * n + a.0) n b.0 (n * 32) inner h.2 in
    let e : n * (n * 32) ≡ 32 * (n * n) = sym (mul_assoc n n 32) ∙ mul_comm (n * n) 32 in
    omega arith

module _ (n : ℕ) (some : 0 < n) where
  -- the fact of a fact's bit is the fact
  pub fact_pos : (f : Fact) → NamesBelow n f → fact_of n (position_of n f) ≡ f
  fact_pos (InClass c a) h =
      let low : c.0 * n + a.0 < 64 * n = omega (arith, mul-add-lt c.0 n a.0 64 h.0 h.1) in
      class_at n (c.0 * n + a.0) low
      ∙ ap₂ (λ (x y : ℕ). InClass (record { 0 = x }) (record { 0 = y })) (div-mul-add c.0 n a.0 h.1) (mod-mul-add c.0 n a.0 h.1)
  fact_pos (Linked l a b) h =
      let y : ℕ = (l.0 * n + a.0) * n + b.0 in
      let back : 64 * n + y - 64 * n ≡ y = omega arith in
      let row : y / n ≡ l.0 * n + a.0 = div-mul-add (l.0 * n + a.0) n b.0 h.2 in
      link_at n (64 * n + y) (omega arith)
      ∙ ap (link_of n) back
      ∙ ap₂ (λ (r k : ℕ). Linked (record { 0 = r / n }) (record { 0 = r % n }) (record { 0 = k })) row (mod-mul-add (l.0 * n + a.0) n b.0 h.2)
      ∙ ap₂ (λ (u v : ℕ). Linked (record { 0 = u }) (record { 0 = v }) b) (div-mul-add l.0 n a.0 h.1) (mod-mul-add l.0 n a.0 h.1)

  abbrev Back : ℕ → Fact → Type 0
  Back x f = NamesBelow n f × (position_of n f ≡ x)

  -- the bit of a bit's fact is the bit
  pub pos_fact : (x : ℕ) → x < bits n → NamesBelow n (fact_of n x) × (position_of n (fact_of n x) ≡ x)
  pos_fact x h =
      elim (cases_lt x (64 * n)) [
        | inl low ↦
            subst (Back x) (sym (class_at n x low)) ((div_below x n 64 some low, mod_below x n some), div-add-mod' x n)
        | inr high ↦
            let y : ℕ = x - 64 * n in
            let e : 32 * (n * n) ≡ 32 * n * n = sym (mul_assoc 32 n n) in
            let row : y / n < 32 * n = div_below y n (32 * n) some (omega arith) in
            let back : 64 * n + ((y / n / n * n + y / n % n) * n + y % n) ≡ x =
            ap (λ (r : ℕ). 64 * n + (r * n + y % n)) (div-add-mod' (y / n) n) ∙ omega (arith, div-add-mod' y n) in
            subst (Back x) (sym (link_at n x high))
            ((div_below (y / n) n 32 some row, mod_below (y / n) n some, mod_below y n some), back)
      ]

-- two numbers of two digits: the first digit decides, then the second
digits_order : (n q r p s : ℕ) → r < n → s < n → q * n + r < p * n + s → (q < p) ⊎ ((q ≡ p) × (r < s))
digits_order n q r p s hr hs lt =
    elim (cases_order q p) [
      | inl e ↦ inr (e, omega (arith, ap (λ (x : ℕ). x * n) e))
      | inr o ↦ elim o [
        | inl h ↦ inl h
        | inr h ↦
            let m : p + 1 ≤ q = omega arith in
            absurd (omega (arith, mul-le-mul_right {m = p + 1} {n = q} n m, add-mul p 1 n))
      ]
    ]

-- the two digits as the test of the listing's order has them
digits_test : (n q r p s : ℕ) → r < n → s < n → q * n + r < p * n + s → (nat_lt q p || (q == p && nat_lt r s)) ≡ true
digits_test n q r p s hr hs lt =
    elim (digits_order n q r p s hr hs lt) [
      | inl h ↦ or_left (nat_lt q p) (q == p && nat_lt r s) (lt-ltb q p h)
      | inr h ↦ or_right (nat_lt q p) (q == p && nat_lt r s) (and_from (q == p) (nat_lt r s) (eq-eqb q p h.0) (lt-ltb r s h.1))
    ]

-- bits ascend as the listing does
pub pos_order : (n : ℕ) (f g : Fact) → NamesBelow n f → NamesBelow n g → position_of n f < position_of n g → earlier f g ≡ true
pos_order n (InClass c a) (InClass d b) hf hg lt = digits_test n c.0 a.0 d.0 b.0 hf.1 hg.1 lt
pos_order n (InClass c a) (Linked l x y) hf hg lt = refl
pos_order n (Linked l x y) (InClass c a) hf hg lt = absurd (omega (arith, mul-add-lt c.0 n a.0 64 hg.0 hg.1))
pos_order n (Linked l a b) (Linked m x y) hf hg lt =
    let rest = nat_lt a.0 x.0 || (a.0 == x.0 && nat_lt b.0 y.0) in
    elim (digits_order n (l.0 * n + a.0) b.0 (m.0 * n + x.0) y.0 hf.2 hg.2 (omega arith)) [
      | inl h ↦ elim (digits_order n l.0 a.0 m.0 x.0 hf.1 hg.1 h) [
        | inl k ↦ or_left (nat_lt l.0 m.0) (l.0 == m.0 && rest) (lt-ltb l.0 m.0 k)
        | inr k ↦
            or_right (nat_lt l.0 m.0) (l.0 == m.0 && rest)
            (and_from (l.0 == m.0) rest (eq-eqb l.0 m.0 k.0) (or_left (nat_lt a.0 x.0) (a.0 == x.0 && nat_lt b.0 y.0) (lt-ltb a.0 x.0 k.1)))
      ]
      | inr h ↦
          let row : l.0 ≡ m.0 = sym (div-mul-add l.0 n a.0 hf.1) ∙ ap (λ (z : ℕ). z / n) h.0 ∙ div-mul-add m.0 n x.0 hg.1 in
          let col : a.0 ≡ x.0 = sym (mod-mul-add l.0 n a.0 hf.1) ∙ ap (λ (z : ℕ). z % n) h.0 ∙ mod-mul-add m.0 n x.0 hg.1 in
          let last = and_from (a.0 == x.0) (nat_lt b.0 y.0) (eq-eqb a.0 x.0 col) (lt-ltb b.0 y.0 h.1) in
          or_right (nat_lt l.0 m.0) (l.0 == m.0 && rest)
          (and_from (l.0 == m.0) rest (eq-eqb l.0 m.0 row) (or_right (nat_lt a.0 x.0) (a.0 == x.0 && nat_lt b.0 y.0) last))
    ]

-- the bit of a fact that a test found to have one, and none of one that has not
pub located : (n : ℕ) (f : Fact) → n ≤ 120 → (fits : Bool) → Decides fits (NamesBelow n f) → (x : ℕ) → x ≡ position_of n f → (r : Option ℕ) → r ≡ then_some fits x → Located n f r
located n f h true d x e (Some k) p =
    let low = d.0 refl in
    let same : k ≡ position_of n f = some_inj p ∙ e in
    let inside = pos_below n f low in
    (low, record { at = same; inside = omega arith; small = omega (arith, mul-le n n 120 120 h h) })
located n f h true d x e None p = absurd (none_some p)
located n f h false d x e (Some k) p = absurd (none_some (sym p))
located n f h false d x e None p = λ low. false≢true (d.1 low)
