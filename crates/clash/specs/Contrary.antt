-- What one fact says against a name's being in a basic class, and against a link from one name to another.
use Rattle.clash.specs.declared.pairs.Hop.{Hop}
use Rattle.theory.specs.Clashes.{At, linked}
use Rattle.theory.specs.Closure.{Excluded, classes, links}
use Rattle.vocabulary.specs.Codes.{turn}
use Rattle.vocabulary.specs.declared.basic.Basic.{Basic}
use Rattle.vocabulary.specs.declared.basic.Basic.TheVariants.{Start}
use Rattle.vocabulary.specs.declared.basic.Directed.TheVariants.{Forward, Backward}
use Rattle.vocabulary.specs.declared.facts.Fact.{Fact}
use Rattle.vocabulary.specs.declared.numbers.Link.{Link}
use Rattle.vocabulary.specs.declared.numbers.Name.{Name}
use Rattle.vocabulary.specs.declared.rules.Family.{Family}
use Rattle.vocabulary.specs.declared.rules.Rule.{Rule}
use Rattle.vocabulary.specs.declared.rules.Rule.TheVariants.{Single}
use Rattle.std.specs.Prelude.{◌≡◌, ◌⊎◌, List}
use mathlib.Core.List.{Memᴰ}

-- a link in its two directions
abbrev pub there : Link → Name → Name → Hop
there l a b = record { along = Forward l; from = a; to = b }

abbrev pub back : Link → Name → Name → Hop
back l a b = record { along = Backward l; from = b; to = a }

abbrev pub turned : Hop → Hop
turned p = record { along = turn p.along; from = p.to; to = p.from }

-- the fact puts the name a into a basic class that excludes b
abbrev pub Contrary : Family → List Rule → Basic → Name → Fact → Type 0
Contrary family rules b a fact = (c : Basic) × At fact c a × Excluded family rules (classes b c)

-- two links that exclude one another lead from one name to one other, or one single link to two
abbrev pub Crossed : Family → List Rule → Hop → Hop → Type 0
Crossed family rules p q =
    (p.from ≡ q.from)
    × (((p.to ≡ q.to) × Excluded family rules (links p.along q.along))
    ⊎ (((p.to ≡ q.to) → ⊥) × (p.along ≡ q.along) × Memᴰ (Single p.along) rules))

-- the fact says that the link is there
abbrev pub Says : Fact → Hop → Type 0
Says fact p = fact ≡ linked p.along p.from p.to

-- the fact contradicts a link between two names: by what it says of where the link starts, or by a link of its own
abbrev pub Denied : Family → List Rule → Hop → Fact → Type 0
Denied family rules p fact = Contrary family rules (Start p.along) p.from fact ⊎ ((q : Hop) × Says fact q × Crossed family rules p q)
