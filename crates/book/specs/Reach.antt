-- Marks on basic classes and directed links: what the within rules lead to from one of them.
use Rattle.std.specs.Prelude.{◌≡◌, ℕ, ◌+◌, ◌<◌, Bool, true, List, length, slice_index_or}
use Rattle.bits.specs.Words.{bit, unset}
use Rattle.book.specs.Steps.{Adds, Extends}
use Rattle.book.specs.declared.reach.Node.{Node}
use Rattle.book.specs.declared.reach.Node.TheVariants.{Class, Link}
use Rattle.theory.specs.Reaching.{LinkStep, Reaches, Step}
use Rattle.vocabulary.specs.Codes.{basic_code, directed_code, turn}
use Rattle.vocabulary.specs.Ranges.{BasicFits, DirectedFits}
use Rattle.vocabulary.specs.declared.basic.Basic.{Basic}
use Rattle.vocabulary.specs.declared.basic.Basic.TheVariants.{Start}
use Rattle.vocabulary.specs.declared.basic.Directed.{Directed}
use Rattle.vocabulary.specs.declared.rules.Rule.{Rule}
use Rattle.vocabulary.specs.declared.rules.Rule.TheVariants.{Within, Apart, LinkWithin, LinkApart, Single}

-- the bit of a node: 128 basic classes, then 64 directed links
abbrev pub node_code : Node → ℕ
node_code (Class b) = basic_code b
node_code (Link d) = 128 + directed_code d

abbrev pub NodeFits : Node → Type 0
NodeFits (Class b) = BasicFits b
NodeFits (Link d) = DirectedFits d

-- one step of the within rules
pub data NodeStep (rules : List Rule) : Node → Node → Type 0 where
  class_step : {b c : Basic} → Step rules b c → NodeStep rules (Class b) (Class c)
  link_step : {d e : Directed} → LinkStep rules d e → NodeStep rules (Link d) (Link e)

-- the node is in range and marked
pub record NodeOn (marks : List ℕ) (n : Node) : Type 0 where
  pub fits : NodeFits n
  pub on : bit marks (node_code n) ≡ true

-- what rules reach from a node
abbrev pub ReachedBy : List Rule × Node → Node → Type 0
ReachedBy x = Reaches (NodeStep x.0) x.1

-- a step of the marks that is sound for every list of rules of which G holds, from every node
abbrev pub Spreads : (List Rule → Type 0) → (List ℕ → Type 0) → Bool → List ℕ → List ℕ → Type 0
Spreads G = Adds NodeOn ReachedBy unset (λ x. G x.0)

-- a mark on one is a mark on the other
abbrev pub Led : Node → Node → List ℕ → Type 0
Led from to marks = NodeOn marks from → NodeOn marks to

-- the rule leads to no new mark
abbrev pub LedBy : Rule → List ℕ → Type 0
LedBy (Within b c) marks = Led (Class b) (Class c) marks
LedBy (Apart b c) marks = Unit {0}
LedBy (LinkWithin d e) marks =
    Led (Class (Start d)) (Class (Start e)) marks
    × Led (Class (Start (turn d))) (Class (Start (turn e))) marks
    × Led (Link d) (Link e) marks
    × Led (Link (turn d)) (Link (turn e)) marks
LedBy (LinkApart d e) marks = Unit {0}
LedBy (Single d) marks = Unit {0}

abbrev pub LedFirst : List Rule → ℕ → List ℕ → Type 0
LedFirst rules n marks = (k : ℕ) (r : Rule) → k < n → LedBy (slice_index_or rules k r) marks

-- from s to t no mark is lost and what is new is reached, by these rules from any node
abbrev pub Reaching : List Rule → List ℕ → List ℕ → Type 0
Reaching rules = Extends NodeOn ReachedBy (λ x. x.0 ≡ rules)

-- and after, no rule leads to anything more
abbrev pub Settled : List Rule → List ℕ → List ℕ → Type 0
Settled rules s t = Reaching rules s t × LedFirst rules (length rules) t
