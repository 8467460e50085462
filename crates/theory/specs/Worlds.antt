-- What can be true at a site: worlds, what it is to keep a rule or have a fact in one, and what follows from rules.
use Rattle.std.specs.Prelude.{◌≡◌, ℕ, Bool, T, List}
use Rattle.std.specs.List.{AllByRecursion}
use Rattle.vocabulary.specs.Ranges.{NameFits}
use Rattle.vocabulary.specs.declared.basic.Basic.{Basic}
use Rattle.vocabulary.specs.declared.basic.Basic.TheVariants.{Named, Start}
use Rattle.vocabulary.specs.declared.basic.Directed.{Directed}
use Rattle.vocabulary.specs.declared.basic.Directed.TheVariants.{Forward, Backward}
use Rattle.vocabulary.specs.declared.facts.Fact.{Fact}
use Rattle.vocabulary.specs.declared.facts.Fact.TheVariants.{InClass, Linked}
use Rattle.vocabulary.specs.declared.numbers.Class.{Class}
use Rattle.vocabulary.specs.declared.numbers.Link.{Link}
use Rattle.vocabulary.specs.declared.numbers.Name.{Name}
use Rattle.vocabulary.specs.declared.rules.Rule.{Rule}
use Rattle.vocabulary.specs.declared.rules.Rule.TheVariants.{Within, Apart, LinkWithin, LinkApart, Single}

-- things, with a thing for each name, a set of things for each class and a set of ordered pairs for each link
pub record Shape : Type 1 where
  pub Carrier : Type 0
  pub thing : Name → Carrier
  pub class : Class → Carrier → Type 0
  pub link : Link → Carrier → Carrier → Type 0

-- the pairs of a directed link
abbrev pub Pair : (s : Shape) → Directed → s.Carrier → s.Carrier → Type 0
Pair s (Forward l) x y = s.link l x y
Pair s (Backward l) x y = s.link l y x

-- the things of a basic class
abbrev pub In : (s : Shape) → Basic → s.Carrier → Type 0
In s (Named c) x = s.class c x
In s (Start d) x = (y : s.Carrier) × Pair s d x y

-- the rule is true
abbrev pub Keeps : Shape → Rule → Type 0
Keeps s (Within b c) = (x : s.Carrier) → In s b x → In s c x
Keeps s (Apart b c) = (x : s.Carrier) → In s b x → In s c x → ⊥
Keeps s (LinkWithin d e) = (x y : s.Carrier) → Pair s d x y → Pair s e x y
Keeps s (LinkApart d e) = (x y : s.Carrier) → Pair s d x y → Pair s e x y → ⊥
Keeps s (Single d) = (x y z : s.Carrier) → Pair s d x y → Pair s d x z → y ≡ z

-- the fact is true
abbrev pub Has : Shape → Fact → Type 0
Has s (InClass c a) = s.class c (s.thing a)
Has s (Linked l a b) = s.link l (s.thing a) (s.thing b)

-- A world: its things are the natural numbers, different names have different things, and a set is given by its test.
pub record World : Type 0 where
  pub thing : Name → ℕ
  pub unique : (a b : Name) → NameFits a → NameFits b → thing a ≡ thing b → a ≡ b
  pub class : Class → ℕ → Bool
  pub link : Link → ℕ → ℕ → Bool

-- the shape of a world
abbrev pub shape : World → Shape
shape w = record { Carrier = ℕ; thing = w.thing; class = λ c x. T (w.class c x); link = λ l x y. T (w.link l x y) }

-- a world that keeps every rule and has every fact
pub record SiteWorld (rules : List Rule) (facts : List Fact) : Type 0 where
  pub world : World
  pub keeps : AllByRecursion (Keeps (shape world)) rules
  pub has : AllByRecursion (Has (shape world)) facts

-- every world that keeps the rules keeps this one too
abbrev pub Follows : List Rule → Rule → Type 0
Follows rules r = (w : World) → AllByRecursion (Keeps (shape w)) rules → Keeps (shape w) r
