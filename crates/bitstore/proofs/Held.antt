-- The facts whose bits are set: how many, which, and in what order.
use Rattle.std.specs.Prelude.{◌≡◌, ℕ, zero, suc, ◌<◌, ◌≤◌, true, false, List, [], ◌∷◌, map, length, Some, refl}
use mathlib.Core.List.{Memᴰ}
use Rattle.std.proofs.Common.{sym, ◌∙◌, arith}
use Rattle.std.proofs.Math.Path.{ap, subst}
use Rattle.std.specs.List.{slice_get, AllByRecursion}
use Rattle.std.proofs.lemmas.List.{length-map}
use Rattle.distinct.specs.Repeats.{Different}
use Rattle.facts.specs.Changes.{NamesBelow}
use Rattle.vocabulary.specs.Ranges.{FactFits}
use Rattle.vocabulary.specs.declared.facts.Fact.{Fact}
use Rattle.vocabulary.specs.declared.facts.Fact.TheVariants.{InClass, Linked}
use Rattle.facts.proofs.Nth.{all_from_nth, different_from_nth, member_nth, none_some, nth_member, some_inj}
use Rattle.bitstore.specs.Marks.{bit_at, tally, listed, Ranked}
use Rattle.bitstore.specs.Layout.{Ascending, bits, fact_of, listing, position_of}
use Rattle.bitstore.proofs.Ranks.{length_listed, listed_ranked, ranked_listed, tally_none, fewer}
use Rattle.bitstore.proofs.Places.{pos_below, fact_pos, pos_fact, pos_order}

nth_map : {X Y : Type 0} (f : X → Y) (xs : List X) (k : ℕ) (x : X) → slice_get xs k ≡ Some x → slice_get (map f xs) k ≡ Some (f x)
nth_map f [] k x p = absurd (none_some p)
nth_map f (y ∷ ys) zero x p = ap (λ v. Some (f v)) (some_inj p)
nth_map f (y ∷ ys) (suc k) x p = nth_map f ys k x p

nth_mapped : {X Y : Type 0} (f : X → Y) (xs : List X) (k : ℕ) (y : Y) → slice_get (map f xs) k ≡ Some y → (x : X) × (slice_get xs k ≡ Some x) × (f x ≡ y)
nth_mapped f [] k y p = absurd (none_some p)
nth_mapped f (x ∷ xs) zero y p = (x, refl, some_inj p)
nth_mapped f (x ∷ xs) (suc k) y p = nth_mapped f xs k y p

pub below_fits : (n : ℕ) → n ≤ 1024 → (f : Fact) → NamesBelow n f → FactFits f
below_fits n h (InClass c a) b = (b.0, omega (arith, b.1))
below_fits n h (Linked l a b) g = (g.0, omega (arith, g.1), omega (arith, g.2))

length_none : {X : Type 0} (xs : List X) → length xs ≡ 0 → xs ≡ []
length_none [] e = refl
length_none (x ∷ xs) e = absurd (omega arith)

module _ (n : ℕ) (t : List ℕ) where
  pub count_facts : length (listing n t) ≡ tally (bit_at t) (bits n)
  unfolding listing
  count_facts = length-map (listed (bit_at t) (bits n)) (fact_of n) ∙ length_listed (bit_at t) (bits n)

  pub facts_short : (m : ℕ) → m ≡ tally (bit_at t) (bits n) → m ≤ 4096 → length (listing n t) ≤ 4096
  facts_short m e h = omega (arith, count_facts)

  pub no_facts : ((k : ℕ) → bit_at t k ≡ false) → listing n t ≡ []
  no_facts f = length_none (listing n t) (count_facts ∙ tally_none (bit_at t) (bits n) f)

  module _ (some : 0 < n) where
    -- what stands at a place
    at_bit : (k : ℕ) (f : Fact) → slice_get (listing n t) k ≡ Some f → NamesBelow n f × Ranked (bit_at t) k (position_of n f)
    unfolding listing
    at_bit k f p =
        let found = nth_mapped (fact_of n) (listed (bit_at t) (bits n)) k f p in
        let x : ℕ = found.0 in
        let r = listed_ranked (bit_at t) (bits n) k x found.1 in
        let back = pos_fact n some x r.0 in
        let e : position_of n f ≡ x = ap (position_of n) (sym found.2) ∙ back.1 in
        (subst (NamesBelow n) found.2 back.0, subst (Ranked (bit_at t) k) (sym e) r.1)

    pub ranked_at : (k x : ℕ) → x < bits n → Ranked (bit_at t) k x → slice_get (listing n t) k ≡ Some (fact_of n x)
    unfolding listing
    ranked_at k x h r = nth_map (fact_of n) (listed (bit_at t) (bits n)) k x (ranked_listed (bit_at t) (bits n) k x h r)

    -- a fact stands exactly if it has a bit and the bit is set
    pub stands_bit : (f : Fact) → Memᴰ f (listing n t) → NamesBelow n f × (bit_at t (position_of n f) ≡ true)
    stands_bit f m = let (k, e) = member_nth m in let h = at_bit k f e in (h.0, h.1.on)

    pub bit_stands : (f : Fact) → NamesBelow n f → bit_at t (position_of n f) ≡ true → Memᴰ f (listing n t)
    bit_stands f h e =
        let x : ℕ = position_of n f in
        nth_member (listing n t) (tally (bit_at t) x) f (ranked_at (tally (bit_at t) x) x (pos_below n f h) (record { on = e; rank = refl }) ∙ ap Some (fact_pos n some f h))

    pub facts_different : Different (listing n t)
    facts_different = different_from_nth (listing n t) (λ i j f p q. sym (at_bit i f p).1.rank ∙ (at_bit j f q).1.rank)

    pub facts_fit : n ≤ 1024 → AllByRecursion FactFits (listing n t)
    facts_fit h = all_from_nth FactFits (listing n t) (λ k f p. below_fits n h f (at_bit k f p).0)

-- the listing ascends
pub facts_order : (n : ℕ) (t : List ℕ) → 0 < n → Ascending (listing n t)
facts_order n t some i j f g lt p q =
    let a = at_bit n t some i f p in
    let b = at_bit n t some j g q in
    pos_order n f g a.0 b.0 (fewer (bit_at t) (position_of n f) (position_of n g) (omega (arith, a.1.rank, b.1.rank)))
