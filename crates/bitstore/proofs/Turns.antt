-- What turning over the bit of a fact does to the facts and their count.
use Rattle.std.proofs.Common.{ℕ, ◌<◌, List, ◌∷◌, ◌++◌, map, ap, ◌∙◌}
use Rattle.distinct.proofs.Sameness.{Parted}
use Rattle.facts.specs.Changes.{NamesBelow}
use Rattle.vocabulary.specs.declared.facts.Fact.{Fact}
use Rattle.bitstore.specs.Marks.{bit_at, OneMore}
use Rattle.bitstore.specs.Layout.{position_of, bits, fact_of, listing}
use Rattle.bitstore.proofs.Places.{pos_below, fact_pos}
use Rattle.bitstore.proofs.Ranks.{listed_put}
use Rattle.std.proofs.lemmas.List.{map-append}

-- t has the bit of f, and is else as s
module _ (n : ℕ) (some : 0 < n) (s t : List ℕ) (f : Fact) (low : NamesBelow n f) (o : OneMore (position_of n f) (bit_at s) (bit_at t)) where
  pub bit_parted : Parted f (listing n t) (listing n s)
  unfolding listing
  bit_parted =
      let x = listed_put (bit_at s) (bit_at t) (position_of n f) o (bits n) (pos_below n f low) in record {
        front = map (fact_of n) x.0;
        back = map (fact_of n) x.1;
        is = ap (map (fact_of n)) x.2 ∙ map-append (fact_of n) x.0 x.1;
        was =
            ap (map (fact_of n)) x.3 ∙ map-append (fact_of n) x.0 (position_of n f ∷ x.1)
            ∙ ap (λ (g : Fact). map (fact_of n) x.0 ++ g ∷ map (fact_of n) x.1) (fact_pos n some f low);
      }
