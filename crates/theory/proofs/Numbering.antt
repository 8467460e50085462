use Rattle.std.proofs.Common.{◌≡◌, ℕ, zero, suc, ◌+◌, ◌*◌, ◌/◌, ◌%◌, ◌≤◌, sym, refl, ap, ◌∙◌, arith}
use native.Mathlib.Decide.{ℕ_discrete, map_dec}
use Rattle.vocabulary.specs.declared.numbers.Name.{Name}
use Rattle.vocabulary.specs.declared.basic.Directed.{Directed}
use Rattle.vocabulary.specs.declared.basic.Directed.TheVariants.{Forward, Backward}

-- A pair of numbers as one number, along the diagonals: 0 is (0, 0), and after (suc a, b) comes (a, suc b), after (0, b)
-- comes (suc b, 0).
pub record Two : Type 0 where
  pub one : ℕ
  pub other : ℕ

next : ℕ → ℕ → Two
next zero b = record { one = suc b; other = 0 }
next (suc a) b = record { one = a; other = suc b }

pub unpair : ℕ → Two
unpair zero = record { one = 0; other = 0 }
unpair (suc n) = next (unpair n).one (unpair n).other

-- the number of the pairs before the diagonal n
before : ℕ → ℕ
before zero = 0
before (suc n) = before n + suc n

pub pair : ℕ → ℕ → ℕ
pair a b = before (a + b) + b

pair_next : (a b : ℕ) → pair (next a b).one (next a b).other ≡ suc (pair a b)
unfolding pair before next
pair_next zero b =
    let e : suc b + 0 ≡ suc b = omega arith in
    let f : 0 + b ≡ b = omega arith in
    rw (e, f) (omega arith)
pair_next (suc a) b =
    let e : a + suc b ≡ suc a + b = omega arith in
    rw e (omega arith)

pub pair_unpair : (n : ℕ) → pair (unpair n).one (unpair n).other ≡ n
unfolding unpair pair before
pair_unpair zero = refl
pair_unpair (suc n) = pair_next (unpair n).one (unpair n).other ∙ ap suc (pair_unpair n)

before_le : (n : ℕ) → n ≤ before n
unfolding before
before_le zero = omega arith
before_le (suc n) = omega arith

pub pair_le : (a b : ℕ) → a + b ≤ pair a b
unfolding pair
pair_le a b = omega (arith, before_le (a + b))

pub unpair_is : (n a b : ℕ) → pair a b ≡ n → unpair n ≡ record { one = a; other = b }
unfolding unpair next pair before
unpair_is zero a b p =
    let h = pair_le a b in
    let q : a ≡ 0 = omega arith in
    let r : b ≡ 0 = omega arith in
    λ i. record { one = sym q i; other = sym r i }
unpair_is (suc n) zero zero p = absurd (omega arith)
unpair_is (suc n) (suc a) zero p =
    ap (λ (t : Two). next t.one t.other) (unpair_is n 0 a (omega (arith, pair_next 0 a)))
unpair_is (suc n) a (suc b) p =
    ap (λ (t : Two). next t.one t.other) (unpair_is n (suc a) b (omega (arith, pair_next (suc a) b)))

pub one_le : (n : ℕ) → (unpair n).one ≤ n
one_le n = omega (arith, pair_le (unpair n).one (unpair n).other, pair_unpair n)

-- The things of the canonical world: the names, and for a thing and a directed link the partner that is made for it.
pub data Thing : Type 0 where
  name : Name → Thing
  child : Thing → Directed → Thing

-- how many partners were made on the way to it
unfoldable pub depth : Thing → ℕ
depth (name a) = 0
depth (child t d) = suc (depth t)

-- the number of a thing: modulo 3 it says which of the three it is
pub number : Thing → ℕ
number (name a) = 3 * a.0
number (child t (Forward l)) = 3 * pair (number t) l.0 + 1
number (child t (Backward l)) = 3 * pair (number t) l.0 + 2

read : ℕ → Thing → ℕ → Two → Thing
read zero t q p = name (record { 0 = q })
read (suc zero) t q p = child t (Forward (record { 0 = p.other }))
read (suc (suc n)) t q p = child t (Backward (record { 0 = p.other }))

decode : ℕ → ℕ → Thing
decode zero n = name (record { 0 = n / 3 })
decode (suc k) n = read (n % 3) (decode k (unpair (n / 3)).one) (n / 3) (unpair (n / 3))

decode_number : (t : Thing) (k : ℕ) → number t ≤ k → decode k (number t) ≡ t
unfolding decode number read
decode_number (name a) zero h =
    let q : 3 * a.0 / 3 ≡ a.0 = omega arith in
    λ i. name (record { 0 = q i })
decode_number (name a) (suc k) h =
    let r : 3 * a.0 % 3 ≡ 0 = omega arith in
    let q : 3 * a.0 / 3 ≡ a.0 = omega arith in
    rw r (λ i. name (record { 0 = q i }))
decode_number (child t (Forward l)) zero h = absurd (omega arith)
decode_number (child t (Backward l)) zero h = absurd (omega arith)
decode_number (child t (Forward l)) (suc k) h =
    let m = pair (number t) l.0 in
    let r : (3 * m + 1) % 3 ≡ 1 = omega arith in
    let q : (3 * m + 1) / 3 ≡ m = omega arith in
    rw (r, q, unpair_is m (number t) l.0 refl)
    (ap (λ (s : Thing). child s (Forward l)) (decode_number t k (omega (arith, pair_le (number t) l.0))))
decode_number (child t (Backward l)) (suc k) h =
    let m = pair (number t) l.0 in
    let r : (3 * m + 2) % 3 ≡ 2 = omega arith in
    let q : (3 * m + 2) / 3 ≡ m = omega arith in
    rw (r, q, unpair_is m (number t) l.0 refl)
    (ap (λ (s : Thing). child s (Backward l)) (decode_number t k (omega (arith, pair_le (number t) l.0))))

number_read : (n k : ℕ) (t : Thing) (r : ℕ) → n ≤ suc k → n % 3 ≡ r
    → ((unpair (n / 3)).one ≤ k → number t ≡ (unpair (n / 3)).one) → number (read r t (n / 3) (unpair (n / 3))) ≡ n
unfolding number read
number_read n k t zero h e ih = omega arith
number_read n k t (suc zero) h e ih =
    let i : number t ≡ (unpair (n / 3)).one = ih (omega (arith, one_le (n / 3))) in
    rw (i, pair_unpair) (omega arith)
number_read n k t (suc (suc r)) h e ih =
    let i : number t ≡ (unpair (n / 3)).one = ih (omega (arith, one_le (n / 3))) in
    rw (i, pair_unpair) (omega arith)

number_decode : (k n : ℕ) → n ≤ k → number (decode k n) ≡ n
unfolding decode number
number_decode zero n h = omega arith
number_decode (suc k) n h = number_read n k (decode k (unpair (n / 3)).one) (n % 3) h refl (number_decode k (unpair (n / 3)).one)

-- every number is that of one thing
pub thing : ℕ → Thing
thing n = decode n n

pub thing_number : (t : Thing) → thing (number t) ≡ t
unfolding thing
thing_number t = decode_number t (number t) (omega arith)

pub number_thing : (n : ℕ) → number (thing n) ≡ n
unfolding thing
number_thing n = number_decode n n (omega arith)

pub same_thing : (s t : Thing) → Dec (s ≡ t)
same_thing s t = map_dec (λ p. sym (thing_number s) ∙ ap thing p ∙ thing_number t) (ap number) (ℕ_discrete (number s) (number t))
