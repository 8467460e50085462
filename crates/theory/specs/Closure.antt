-- The exclusion closure of a book: which basic classes, and which directed links, can have nothing in common.
use Rattle.vocabulary.specs.Codes.{turn}
use Rattle.vocabulary.specs.Families.{LinksToo}
use Rattle.vocabulary.specs.declared.basic.Basic.{Basic}
use Rattle.vocabulary.specs.declared.basic.Basic.TheVariants.{Start}
use Rattle.vocabulary.specs.declared.basic.Directed.{Directed}
use Rattle.vocabulary.specs.declared.rules.Family.{Family}
use Rattle.vocabulary.specs.declared.rules.Rule.{Rule}
use Rattle.vocabulary.specs.declared.rules.Rule.TheVariants.{Within, Apart, LinkWithin, LinkApart}
use Rattle.std.specs.Prelude.{List}
use mathlib.Core.List.{Memᴰ}

-- a pair of two basic classes, or of two directed links
pub data Exclusion : Type 0 where
  classes : Basic → Basic → Exclusion
  links : Directed → Directed → Exclusion

-- The least set of unordered pairs that holds the apart rules and is closed under what follows them here;
-- a pair of links and the pair of the two turned round are one. The things where d ends are `Start (turn d)`.
pub data Excluded (family : Family) (rules : List Rule) : Exclusion → Type 0 where
  -- pairs are unordered
  swap : {b c : Basic} → Excluded family rules (classes b c) → Excluded family rules (classes c b)
  link_swap : {d e : Directed} → Excluded family rules (links d e) → Excluded family rules (links e d)
  link_turn : {d e : Directed} → Excluded family rules (links (turn d) (turn e)) → Excluded family rules (links d e)
  -- each apart rule gives its pair
  apart : {b c : Basic} → Memᴰ (Apart b c) rules → Excluded family rules (classes b c)
  link_apart : {d e : Directed} → Memᴰ (LinkApart d e) rules → Excluded family rules (links d e)
  -- what is within something inherits its exclusions, links at their starts, at their ends and as links
  narrow : {a b c : Basic} → Memᴰ (Within a b) rules → Excluded family rules (classes b c) → Excluded family rules (classes a c)
  narrow_start : {d e : Directed} {b : Basic} → Memᴰ (LinkWithin d e) rules → Excluded family rules (classes (Start e) b) → Excluded family rules (classes (Start d) b)
  narrow_end : {d e : Directed} {b : Basic} → Memᴰ (LinkWithin d e) rules → Excluded family rules (classes (Start (turn e)) b) → Excluded family rules (classes (Start (turn d)) b)
  link_narrow : {d e f : Directed} → Memᴰ (LinkWithin d e) rules → Excluded family rules (links e f) → Excluded family rules (links d f)
  -- a link without a start has no end, and no pair
  other_end : {d : Directed} → Excluded family rules (classes (Start (turn d)) (Start (turn d))) → Excluded family rules (classes (Start d) (Start d))
  empty_link : {d : Directed} → LinksToo family → Excluded family rules (classes (Start d) (Start d)) → Excluded family rules (links d d)
  link_empty : {d : Directed} → Excluded family rules (links d d) → Excluded family rules (classes (Start d) (Start d))
