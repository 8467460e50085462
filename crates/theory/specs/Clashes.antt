-- Facts that contradict the rules.
use Rattle.theory.specs.Closure.{Excluded, classes, links}
use Rattle.theory.specs.Reaching.{LinkStep}
use Rattle.vocabulary.specs.declared.basic.Basic.{Basic}
use Rattle.vocabulary.specs.declared.basic.Basic.TheVariants.{Named, Start}
use Rattle.vocabulary.specs.declared.basic.Directed.{Directed}
use Rattle.vocabulary.specs.declared.basic.Directed.TheVariants.{Forward, Backward}
use Rattle.vocabulary.specs.declared.facts.Fact.{Fact}
use Rattle.vocabulary.specs.declared.facts.Fact.TheVariants.{InClass, Linked}
use Rattle.vocabulary.specs.declared.numbers.Name.{Name}
use Rattle.vocabulary.specs.declared.rules.Family.{Family}
use Rattle.vocabulary.specs.declared.rules.Rule.{Rule}
use Rattle.vocabulary.specs.declared.rules.Rule.TheVariants.{Single}
use Rattle.std.specs.Prelude.{◌≡◌, List}
use mathlib.Core.List.{Memᴰ}

-- the fact that a directed link goes from a to b
abbrev pub linked : Directed → Name → Name → Fact
linked (Forward l) a b = Linked l a b
linked (Backward l) a b = Linked l b a

-- the fact f puts the name a into a basic class
abbrev pub At : Fact → Basic → Name → Type 0
At f (Named c) a = f ≡ InClass c a
At f (Start d) a = (b : Name) × (f ≡ linked d a b)

-- two facts, perhaps the same one, that put a name into two basic classes or two names into two links that exclude
-- one another, or that give a single link two partners
pub data Clash (family : Family) (rules : List Rule) (f g : Fact) : Type 0 where
  at_one : (a : Name) (b c : Basic) → At f b a → At g c a → Excluded family rules (classes b c) → Clash family rules f g
  across_one : (a b : Name) (d e : Directed) → f ≡ linked d a b → g ≡ linked e a b → Excluded family rules (links d e) → Clash family rules f g
  two_partners : (a b c : Name) (d : Directed) → Memᴰ (Single d) rules → f ≡ linked d a b → g ≡ linked d a c → ¬ (b ≡ c) → Clash family rules f g

-- no two of the facts clash, and none with itself
abbrev pub Calm : Family → List Rule → List Fact → Type 0
Calm family rules facts = (f g : Fact) → Memᴰ f facts → Memᴰ g facts → ¬ (Clash family rules f g)

-- no link is within a single link (a step speaks of links turned round too)
abbrev pub Lawful : List Rule → Type 0
Lawful rules = (d e : Directed) → Memᴰ (Single d) rules → LinkStep rules e d → ⊥
