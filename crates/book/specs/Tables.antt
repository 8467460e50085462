-- What the two closure tables of a book hold: 256 words for basic classes, two to a row, and 64 for directed links, one to a row.
use Rattle.std.specs.Prelude.{ℕ, Bool, List, Decides}
use Rattle.bits.specs.Relations.{On, pair}
use Rattle.theory.specs.Closure.{Excluded, classes, links}
use Rattle.vocabulary.specs.Codes.{basic_code, directed_code}
use Rattle.vocabulary.specs.Ranges.{BasicFits, DirectedFits}
use Rattle.vocabulary.specs.declared.basic.Basic.{Basic}
use Rattle.vocabulary.specs.declared.basic.Directed.{Directed}
use Rattle.vocabulary.specs.declared.rules.Family.{Family}
use Rattle.vocabulary.specs.declared.rules.Rule.{Rule}

-- a table with `stride` words to a row holds the pair, which is in range
pub record PairOn {K : Type 0} (Fits : K → Type 0) (code : K → ℕ) (stride : ℕ) (words : List ℕ) (x y : K) : Type 0 where
  pub first : Fits x
  pub second : Fits y
  pub on : On stride words (code x) (code y)

-- the bit of two basic classes: for codes b and k, bit k % 64 of word 2 * b + k / 64
abbrev pub class_bit : List ℕ → Basic → Basic → Bool
class_bit basic b c = pair 2 basic (basic_code b) (basic_code c)

-- the bit of two directed links: for codes d and k, bit k of word d
abbrev pub link_bit : List ℕ → Directed → Directed → Bool
link_bit table d e = pair 1 table (directed_code d) (directed_code e)

-- a bit is set exactly if its pair is in the exclusion closure of the rules, and no pair out of range is there
pub record HoldsClosure (family : Family) (rules : List Rule) (basic table : List ℕ) : Type 0 where
  pub of_classes : (b c : Basic) → BasicFits b → BasicFits c → Decides (class_bit basic b c) (Excluded family rules (classes b c))
  pub of_links : (d e : Directed) → DirectedFits d → DirectedFits e → Decides (link_bit table d e) (Excluded family rules (links d e))
  pub class_range : (b c : Basic) → Excluded family rules (classes b c) → BasicFits b × BasicFits c
  pub link_range : (d e : Directed) → Excluded family rules (links d e) → DirectedFits d × DirectedFits e
