-- Counts of groups of bits: kept as a bit is turned over, and used to find the set bit of a place.
use Rattle.std.proofs.Common.{◌≡◌, ℕ, zero, suc, ◌+◌, ◌-◌, ◌*◌, ◌/◌, ◌%◌, ◌^◌, ◌<◌, ◌≤◌, Bool, true, false, cond, eqb, List, length, get_or, map, set, replicate, sym, refl, ap, ◌∙◌, subst, ap₂, inl, inr, add-zero, add_assoc, mul-le-mul_right, suc-mul, div-one, add-one, arith}
use Rattle.std.specs.Int.Count.{ones, ones_in, ones_step}
use Rattle.std.proofs.lemmas.Nat.{mul-le, shr-shr, shr_below}
use Rattle.std.proofs.lemmas.List.{get_or-set_same, get_or-set_other, length-map, map-id}
use Rattle.std.proofs.Math.ListN.{get_or-map}
use Rattle.std.proofs.lemmas.Bool.{cases_eq, cases_lt}
use Rattle.bitstore.specs.Marks.{bit_at, tally, sums, Counts, Reaches, Within, OneMore, Ranked}
use Rattle.bits.proofs.Words.{bit_zero}
use Rattle.bits.specs.Words.{bit_of}
use Rattle.bitstore.specs.Layout.{bits}
use Rattle.bitstore.proofs.Ranks.{tally_same, tally_before, tally_after, tally_le, tally_zero, tally_none, fewer}

-- ---- sums

pub sums_more : (xs : List ℕ) (i : ℕ) → sums xs (i + 1) ≡ sums xs i + get_or xs i 0
unfolding sums
sums_more xs i = ap (sums xs) (add-one i)

module _ (xs : List ℕ) (j v : ℕ) where
  sums_before : (i : ℕ) → i ≤ j → sums (set xs j v) i ≡ sums xs i
  unfolding sums
  sums_before zero h = refl
  sums_before (suc i) h =
      ap₂ (λ (x y : ℕ). x + y) (sums_before i (omega arith)) (get_or-set_other xs j i v 0 (λ e. absurd (omega arith)))

  sums_after : j < length xs → (i : ℕ) → j < i → sums (set xs j v) i + get_or xs j 0 ≡ sums xs i + v
  unfolding sums
  sums_after low zero h = absurd (omega arith)
  sums_after low (suc i) h =
      elim (cases_eq j i) [
        | inl e ↦
            let a = sums_before i (omega arith) in
            let b : get_or (set xs j v) i 0 ≡ v = ap (λ (k : ℕ). get_or (set xs j v) k 0) (sym e) ∙ get_or-set_same xs j v 0 low in
            let c : get_or xs i 0 ≡ get_or xs j 0 = ap (λ (k : ℕ). get_or xs k 0) (sym e) in
            omega arith
        | inr ne ↦
            let a = sums_after low i (omega arith) in
            let b : get_or (set xs j v) i 0 ≡ get_or xs i 0 = get_or-set_other xs j i v 0 (λ e. absurd (ne (sym e))) in
            omega arith
      ]

zeros_at : (n i : ℕ) → get_or {A = ℕ} (replicate n 0) i 0 ≡ 0
zeros_at zero i = refl
zeros_at (suc n) zero = refl
zeros_at (suc n) (suc i) = zeros_at n i

zeros_sums : (m i : ℕ) → sums (replicate m 0) i ≡ 0
unfolding sums
zeros_sums m zero = refl
zeros_sums m (suc i) = ap₂ (λ (x y : ℕ). x + y) (zeros_sums m i) (zeros_at m i)

pub counts_none : (p : ℕ → Bool) (g n m : ℕ) → ((k : ℕ) → p k ≡ false) → Counts p g n (replicate m 0)
counts_none p g n m f i h = zeros_sums m i ∙ sym (tally_none p (i * g) f)

-- ---- the counts, as a bit of the group j is set or cleared

module _ (p q : ℕ → Bool) (g n k j : ℕ) (xs : List ℕ) (o : OneMore k p q) (from : j * g ≤ k) (to : k < (j + 1) * g) (low : j < n) where
  before : (i : ℕ) → i ≤ j → i * g ≤ k
  before i h = omega (arith, mul-le-mul_right {m = i} {n = j} g h)

  after : (i : ℕ) → j < i → k < i * g
  after i h = let m : j + 1 ≤ i = omega arith in omega (arith, mul-le-mul_right {m = j + 1} {n = i} g m)

  pub counts_up : Counts p g n xs → n ≤ length xs → Counts q g n (set xs j (get_or xs j 0 + 1))
  counts_up c long i h =
      elim (cases_lt j i) [
        | inl lt ↦ omega (arith, sums_after xs j (get_or xs j 0 + 1) (omega arith) i lt, c i h, tally_after p q k o (i * g) (after i lt))
        | inr ge ↦ omega (arith, sums_before xs j (get_or xs j 0 + 1) i ge, c i h, tally_before p q k o (i * g) (before i ge))
      ]

  pub counts_some : Counts q g n xs → 0 < get_or xs j 0
  counts_some c =
      let m : j * g ≤ (j + 1) * g = omega arith in
      let d : ℕ = (j + 1) * g - j * g in
      let e : j * g + d ≡ (j + 1) * g = omega arith in
      let l : tally p (j * g) ≤ tally p ((j + 1) * g) = subst (λ (x : ℕ). tally p (j * g) ≤ tally p x) e (tally_le p (j * g) d) in
      omega (arith, sums_more xs j, c j (omega arith), c (j + 1) (omega arith), tally_before p q k o (j * g) from, tally_after p q k o ((j + 1) * g) to)

  pub counts_down : Counts q g n xs → n ≤ length xs → Counts p g n (set xs j (get_or xs j 0 - 1))
  counts_down c long i h =
      let some = counts_some c in
      elim (cases_lt j i) [
        | inl lt ↦ omega (arith, sums_after xs j (get_or xs j 0 - 1) (omega arith) i lt, c i h, tally_after p q k o (i * g) (after i lt))
        | inr ge ↦ omega (arith, sums_before xs j (get_or xs j 0 - 1) i ge, c i h, tally_before p q k o (i * g) (before i ge))
      ]

digit_le : (b : Bool) → cond b 1 0 ≤ 1
digit_le true = omega arith
digit_le false = omega arith

tally_span : (p : ℕ → Bool) (m d : ℕ) → tally p (m + d) ≤ tally p m + d
unfolding tally
tally_span p m zero = subst (λ (x : ℕ). tally p x ≤ tally p m + 0) (let e : m ≡ m + 0 = omega arith in e) (omega arith)
tally_span p m (suc d) =
    subst (λ (x : ℕ). tally p x ≤ tally p m + suc d) (let e : suc (m + d) ≡ m + suc d = omega arith in e)
    (omega (arith, tally_span p m d, digit_le (p (m + d))))

next_group : (j g : ℕ) → (j + 1) * g ≡ j * g + g
next_group j g = ap (λ (x : ℕ). x * g) (add-one j) ∙ suc-mul j g

pub counts_le : (p : ℕ → Bool) (g n j : ℕ) (xs : List ℕ) → Counts p g n xs → j < n → get_or xs j 0 ≤ g
counts_le p g n j xs c h =
    let e : (j + 1) * g ≡ j * g + g = next_group j g in
    let s : tally p ((j + 1) * g) ≤ tally p (j * g) + g = subst (λ (x : ℕ). tally p x ≤ tally p (j * g) + g) (sym e) (tally_span p (j * g) g) in
    omega (arith, sums_more xs j, c j (omega arith), c (j + 1) (omega arith))

-- ---- the bits of a byte

-- the numbers from a on
pub tally_add : (p : ℕ → Bool) (a d : ℕ) → tally p (a + d) ≡ tally p a + tally (λ x. p (a + x)) d
unfolding tally
tally_add p a zero = ap (tally p) (add-zero a) ∙ sym (add-zero (tally p a))
tally_add p a (suc d) =
    ap (tally p) (let e : a + suc d ≡ suc (a + d) = omega arith in e)
    ∙ ap (λ (x : ℕ). x + cond (p (a + d)) 1 0) (tally_add p a d)
    ∙ add_assoc (tally p a) (tally (λ x. p (a + x)) d) (cond (p (a + d)) 1 0)

digit : (d : ℕ) → d < 2 → ◌≡◌ {A = ℕ} (cond (eqb d 1) 1 0) d
digit zero h = refl
digit (suc zero) h = refl
digit (suc (suc d)) h = absurd (omega arith)

lowest : (w : ℕ) → tally (bit_of w) 1 ≡ w % 2
unfolding tally bit_of
lowest w =
    let e : ◌≡◌ {A = ℕ} (cond (eqb (w / 1 % 2) 1) 1 0) (w % 2) = ap (λ (x : ℕ). cond (eqb (x % 2) 1) 1 0) (div-one w) ∙ digit (w % 2) (omega arith) in
    omega arith

higher : (w x : ℕ) → bit_of w (1 + x) ≡ bit_of (w / 2) x
unfolding bit_of
higher w x = ap (λ (y : ℕ). eqb (y % 2) 1) (sym (shr-shr w 1 x))

none_set : ones 0 ≡ 0
unfolding ones ones_in
none_set = refl

pub ones_tally : (k w : ℕ) → w < 2 ^ k → tally (bit_of w) k ≡ ones w
unfolding tally
ones_tally zero w h = let e : w ≡ 0 = omega arith in sym (ap ones e ∙ none_set)
ones_tally (suc k) w h =
    let h' : w < 2 ^ (k + 1) = subst (λ (x : ℕ). w < 2 ^ x) (sym (add-one k)) h in
    let e : suc k ≡ 1 + k = omega arith in
    let a = ap (tally (bit_of w)) e in
    let b = tally_add (bit_of w) 1 k in
    let c = tally_same (bit_of (w / 2)) (λ x. bit_of w (1 + x)) k (λ x _. higher w x) in
    let d = ones_tally k (w / 2) (shr_below w k 1 h') in
    omega (arith, a, b, c, d, lowest w, ones_step w)

module _ (t : List ℕ) (i : ℕ) where
  bit_in : (x : ℕ) → x < 8 → bit_at t (8 * i + x) ≡ bit_of (get_or t i 0) x
  unfolding bit_at
  bit_in x h =
      let d : (8 * i + x) / 8 ≡ i = omega arith in
      let m : (8 * i + x) % 8 ≡ x = omega arith in
      ap₂ (λ (a b : ℕ). bit_of (get_or t a 0) b) d m

  pub byte_part : (j : ℕ) → j ≤ 8 → tally (bit_at t) (8 * i + j) ≡ tally (bit_at t) (8 * i) + tally (bit_of (get_or t i 0)) j
  byte_part j h =
      tally_add (bit_at t) (8 * i) j
      ∙ ap (λ (x : ℕ). tally (bit_at t) (8 * i) + x) (tally_same (bit_of (get_or t i 0)) (λ x. bit_at t (8 * i + x)) j (λ x l. bit_in x (omega arith)))

  pub byte_ranked : (place rest j : ℕ) → tally (bit_at t) (8 * i) + rest ≡ place → j < 8 → Ranked (bit_of (get_or t i 0)) rest j → Ranked (bit_at t) place (8 * i + j)
  byte_ranked place rest j e h r = record { on = bit_in j h ∙ r.on; rank = omega (arith, byte_part j (omega arith), r.rank) }

-- how many bits of a byte are set
abbrev pub weight : ℕ → ℕ
weight w = tally (bit_of w) 8

-- the weights of the bytes add up to the count of the table's bits
module _ (t : List ℕ) where
  byte_weight : (i : ℕ) → get_or (map weight t) i 0 ≡ weight (get_or t i 0)
  byte_weight i = ap (get_or (map weight t) i) (sym (tally_none (bit_of 0) 8 bit_zero)) ∙ get_or-map weight t i 0

  pub byte_sums : (i : ℕ) → sums (map weight t) i ≡ tally (bit_at t) (8 * i)
  unfolding sums
  byte_sums zero = sym (tally_zero (bit_at t)) ∙ ap (tally (bit_at t)) (let e : 0 ≡ 8 * 0 = omega arith in e)
  byte_sums (suc i) =
      let e : 8 * suc i ≡ 8 * i + 8 = omega arith in
      omega (arith, byte_sums i, byte_weight i, byte_part t i 8 (omega arith), ap (tally (bit_at t)) e)

-- ---- the set bit of a place, by way of the groups

module _ (t wide close : List ℕ) (n place : ℕ) (far : Counts (bit_at t) 16384 32 wide) (near : Counts (bit_at t) 512 1024 close)
    (below : place < tally (bit_at t) (bits n)) (most : n ≤ 120) (size : length t ≡ 8 * n + 4 * (n * n)) where
  total : place < tally (bit_at t) 524288
  total =
      let m : n * n ≤ 120 * 120 = mul-le n n 120 120 most most in
      let e : bits n + (524288 - bits n) ≡ 524288 = omega arith in
      omega (arith, tally_le (bit_at t) (bits n) (524288 - bits n), ap (tally (bit_at t)) e)

  pub first : length wide ≡ 32 → Reaches (map (λ n. n) wide) 0 place
  first lw = rw (map-id wide) (omega arith, omega (arith, total, far 0 (omega arith), far 32 (omega arith), ap (sums wide) lw, tally_zero (bit_at t)))

  module _ (lw : length wide ≡ 32) (lc : length close ≡ 1024) (w left : ℕ) (a : Within (map (λ n. n) wide) 0 place w left) where
    a' : Within wide 0 place w left
    a' = subst (λ xs. Within xs 0 place w left) (map-id wide) a

    second_at : sums close (32 * w) + left ≡ place
    second_at =
        let h : w < 32 = omega (arith, a'.inside) in
        let e : 32 * w * 512 ≡ w * 16384 = omega arith in
        omega (arith, a'.same, far 0 (omega arith), tally_zero (bit_at t), far w (omega arith), near (32 * w) (omega arith), ap (tally (bit_at t)) e)

    pub second : Reaches (map (λ n. n) close) (32 * w) left
    second = rw (map-id close) (omega (arith, a'.inside), omega (arith, second_at, total, near 1024 (omega arith), ap (sums close) lc))

    module _ (c rest : ℕ) (b : Within (map (λ n. n) close) (32 * w) left c rest) where
      b' : Within close (32 * w) left c rest
      b' = subst (λ xs. Within xs (32 * w) left c rest) (map-id close) b

      third_at : sums (map weight t) (64 * c) + rest ≡ place
      third_at =
          let h : c < 1024 = omega (arith, b'.inside) in
          let e : c * 512 ≡ 8 * (64 * c) = omega arith in
          omega (arith, second_at, b'.same, near c (omega arith), byte_sums t (64 * c), ap (tally (bit_at t)) e)

      pub third : Reaches (map weight t) (64 * c) rest
      third =
          let e : bits n ≡ 8 * length t = omega arith in
          let start = byte_sums t (64 * c) in
          let end = byte_sums t (length t) in
          let l : tally (bit_at t) (8 * (64 * c)) < tally (bit_at t) (8 * length t) = omega (arith, third_at, ap (tally (bit_at t)) e) in
          let f = fewer (bit_at t) (8 * (64 * c)) (8 * length t) l in
          (omega (arith, length-map t weight), omega (arith, third_at, ap (tally (bit_at t)) e, ap (sums (map weight t)) (length-map t weight)))

      module _ (i over : ℕ) (d : Within (map weight t) (64 * c) rest i over) where
        pub fourth_inside : i < length t
        fourth_inside = omega (arith, d.inside, length-map t weight)

        pub fourth_enough : over < weight (get_or t i 0)
        fourth_enough = omega (arith, d.here, byte_weight t i)

        pub fourth : (j : ℕ) → j < 8 → Ranked (bit_of (get_or t i 0)) over j → (8 * i + j < bits n) × Ranked (bit_at t) place (8 * i + j)
        fourth j h r = (omega (arith, fourth_inside), byte_ranked t i place over j (omega (arith, d.same, third_at, byte_sums t i)) h r)
