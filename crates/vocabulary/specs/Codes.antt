-- Turning a link round, and the codes of directed links and basic classes.
use Rattle.std.specs.Prelude.{ℕ, ◌+◌, ◌<◌}
use Rattle.vocabulary.specs.Ranges.{DirectedFits, BasicFits}
use Rattle.std.proofs.Math.Nat.{le_refl, le-add_right, lt_of_lt_of_le, add-lt-add_of_le_of_lt}
use Rattle.vocabulary.specs.declared.basic.Basic.{Basic}
use Rattle.vocabulary.specs.declared.basic.Basic.TheVariants.{Named, Start}
use Rattle.vocabulary.specs.declared.basic.Directed.{Directed}
use Rattle.vocabulary.specs.declared.basic.Directed.TheVariants.{Forward, Backward}

-- a directed link turned round; the things where d ends are those where `turn d` starts
abbrev pub turn : Directed → Directed
turn (Forward l) = Backward l
turn (Backward l) = Forward l

-- the code of a directed link, 0 to 63: the link's number forward, 32 more backward
abbrev pub directed_code : Directed → ℕ
directed_code (Forward l) = l.0
directed_code (Backward l) = 32 + l.0

-- the code of a basic class, 0 to 127: the number of a class, or 64 more than the code of the link that starts there
abbrev pub basic_code : Basic → ℕ
basic_code (Named c) = c.0
basic_code (Start d) = 64 + directed_code d

-- the code of a value in range
pub directed_below : (d : Directed) → DirectedFits d → directed_code d < 64
directed_below (Forward l) h = lt_of_lt_of_le h (le-add_right 32 32)
directed_below (Backward l) h = add-lt-add_of_le_of_lt (le_refl 32) h

pub basic_below : (b : Basic) → BasicFits b → basic_code b < 128
basic_below (Named c) h = lt_of_lt_of_le h (le-add_right 64 64)
basic_below (Start d) h = add-lt-add_of_le_of_lt (le_refl 64) (directed_below d h)
