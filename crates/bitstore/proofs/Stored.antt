-- A bit store as its methods see it: the counts after the bit k is turned over, and the facts then.
use Rattle.std.proofs.Common.{◌≡◌, ℕ, ◌+◌, ◌-◌, ◌/◌, ◌<◌, ◌≤◌, Bool, true, false, cond, not, length, get_or, set, sym, refl, ap, ◌∙◌, subst, arith}
use Rattle.std.proofs.lemmas.Bool.{false≢true}
use Rattle.std.proofs.lemmas.Nat.{mul-le}
use Rattle.distinct.proofs.Sameness.{Parted}
use Rattle.facts.specs.Changes.{NamesBelow}
use Rattle.vocabulary.specs.declared.facts.Fact.{Fact}
use mathlib.Core.List.{Memᴰ}
use Rattle.bitstore.specs.declared.store.BitStore.{BitStore}
use Rattle.bitstore.specs.Layout.{Placed, bits, listing}
use Rattle.bitstore.specs.Marks.{bit_at, Counts, OneMore, Turned, tally}
use Rattle.bitstore.proofs.Bytes.{flipped, flip_clears, flip_sets}
use Rattle.bitstore.proofs.Groups.{counts_down, counts_le, counts_some, counts_up}
use Rattle.bitstore.proofs.Held.{bit_stands, stands_bit}
use Rattle.bitstore.proofs.Ranks.{tally_after}
use Rattle.bitstore.proofs.Turns.{bit_parted}

-- a count after the turn
abbrev pub stepped : Bool → ℕ → ℕ
stepped on n = cond on (n + 1) (n - 1)

module _ (s : BitStore) (k : ℕ) (inside : k < bits s.names) where
  abbrev was : ℕ → Bool
  was = bit_at s.table.now

  abbrev pub after : ℕ → Bool
  after = bit_at (flipped s.table.now k)

  pub in_table : k / 8 < length s.table.now
  in_table = omega arith

  pub in_groups : k < 524288
  in_groups = omega (arith, mul-le s.names s.names 120 120 s.most s.most)

  pub turned_bits : (on : Bool) → was k ≡ not on → Turned on k was after
  turned_bits true e = flip_sets s.table.now k in_table e
  turned_bits false e = flip_clears s.table.now k in_table e

  -- what the bit adds to each count that it is in, or takes from it
  pub turned_held : (on : Bool) → Turned on k was after → stepped on s.count ≡ tally after (bits s.names)
  turned_held true o = omega (arith, s.held, tally_after was after k o (bits s.names) inside)
  turned_held false o = omega (arith, s.held, tally_after after was k o (bits s.names) inside)

  pub turned_far : (on : Bool) → Turned on k was after → length s.wide ≡ 32 → Counts after 16384 32 (set s.wide (k / 16384) (stepped on (get_or s.wide (k / 16384) 0)))
  turned_far true o e = counts_up was after 16384 32 k (k / 16384) s.wide o (omega arith) (omega arith) (omega (arith, in_groups)) s.far (omega arith)
  turned_far false o e = counts_down after was 16384 32 k (k / 16384) s.wide o (omega arith) (omega arith) (omega (arith, in_groups)) s.far (omega arith)

  pub turned_near : (on : Bool) → Turned on k was after → length s.close ≡ 1024 → Counts after 512 1024 (set s.close (k / 512) (stepped on (get_or s.close (k / 512) 0)))
  turned_near true o e = counts_up was after 512 1024 k (k / 512) s.close o (omega arith) (omega arith) (omega (arith, in_groups)) s.near (omega arith)
  turned_near false o e = counts_down after was 512 1024 k (k / 512) s.close o (omega arith) (omega arith) (omega (arith, in_groups)) s.near (omega arith)

  -- a bit that is cleared is in each count
  module _ (on : Bool) (off : on ≡ false) (o : Turned on k was after) where
    cleared : OneMore k after was
    cleared = subst (λ (b : Bool). Turned b k was after) off o

    pub some_all : 1 ≤ s.count
    some_all = omega (arith, s.held, tally_after after was k cleared (bits s.names) inside)

    pub some_far : 1 ≤ get_or s.wide (k / 16384) 0
    some_far = counts_some after was 16384 32 k (k / 16384) s.wide cleared (omega arith) (omega arith) (omega (arith, in_groups)) s.far

    pub some_near : 1 ≤ get_or s.close (k / 512) 0
    some_near = counts_some after was 512 1024 k (k / 512) s.close cleared (omega arith) (omega arith) (omega (arith, in_groups)) s.near

  pub room_far : get_or s.wide (k / 16384) 0 ≤ 16384
  room_far = counts_le was 16384 32 (k / 16384) s.wide s.far (omega (arith, in_groups))

  pub room_near : get_or s.close (k / 512) 0 ≤ 512
  room_near = counts_le was 512 1024 (k / 512) s.close s.near (omega (arith, in_groups))

  pub turned_small : (on : Bool) → (on ≡ true → s.count < 4096) → stepped on s.count ≤ 4096
  turned_small true room = omega (arith, room refl)
  turned_small false room = omega (arith, s.small)

-- k is the bit of the fact f
module _ (s : BitStore) (f : Fact) (k : ℕ) (found : NamesBelow s.names f × Placed s.names f k) where
  pub fact_out : bit_at s.table.now k ≡ false → Memᴰ f (listing s.names s.table.now) → ⊥
  fact_out off m = false≢true (sym off ∙ ap (bit_at s.table.now) found.1.at ∙ (stands_bit s.names s.table.now (omega arith) f m).1)

  pub fact_in : bit_at s.table.now k ≡ true → Memᴰ f (listing s.names s.table.now)
  fact_in on = bit_stands s.names s.table.now (omega arith) f found.0 (ap (bit_at s.table.now) (sym found.1.at) ∙ on)

  -- the store t after it was turned over
  module _ (t : BitStore) (names : t.names ≡ s.names) where
    same : listing t.names t.table.now ≡ listing s.names t.table.now
    same = ap (λ (n : ℕ). listing n t.table.now) names

    pub parted_in : Turned true k (bit_at s.table.now) (bit_at t.table.now) → Parted f (listing t.names t.table.now) (listing s.names s.table.now)
    parted_in o =
        rw same
        (bit_parted s.names (omega arith) s.table.now t.table.now f found.0 (subst (λ (x : ℕ). OneMore x (bit_at s.table.now) (bit_at t.table.now)) found.1.at o))

    pub parted_out : Turned false k (bit_at s.table.now) (bit_at t.table.now) → Parted f (listing s.names s.table.now) (listing t.names t.table.now)
    parted_out o =
        rw same
        (bit_parted s.names (omega arith) t.table.now s.table.now f found.0 (subst (λ (x : ℕ). OneMore x (bit_at t.table.now) (bit_at s.table.now)) found.1.at o))
