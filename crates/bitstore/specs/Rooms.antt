-- What a bit store always takes; a ghost member cites it.
use Rattle.std.specs.Prelude.{ℕ, ◌<◌, ◌≤◌}
use Rattle.facts.specs.Changes.{NamesBelow}
use Rattle.std.proofs.Math.Nat.{le-add_right, lt_of_lt_of_le}
use Rattle.vocabulary.specs.declared.facts.Fact.{Fact}
use Rattle.vocabulary.specs.declared.facts.Fact.TheVariants.{InClass, Linked}

-- names below 64 are below n, and fewer than 128 are fewer than 4,096
pub room : (n count : ℕ) (f : Fact) → 64 ≤ n → count < 128 → NamesBelow 64 f → NamesBelow n f × (count < 4096)
room n count (InClass c a) h few b = ((b.0, lt_of_lt_of_le b.1 h), lt_of_lt_of_le few (le-add_right 128 3968))
room n count (Linked l a b) h few g = ((g.0, lt_of_lt_of_le g.1 h, lt_of_lt_of_le g.2 h), lt_of_lt_of_le few (le-add_right 128 3968))
