-- Derivations of ground atoms from facts by the within rules, with new things for partners (a chase).
use Rattle.std.proofs.Common.{◌≡◌, ℕ, suc, ◌≤◌, List, arith}
use Rattle.theory.proofs.Numbering.{Thing, name, child}
use Rattle.theory.specs.Worlds.{Shape}
use Rattle.vocabulary.specs.declared.basic.Basic.{Basic}
use Rattle.vocabulary.specs.declared.basic.Basic.TheVariants.{Named, Start}
use Rattle.vocabulary.specs.declared.basic.Directed.{Directed}
use Rattle.vocabulary.specs.declared.basic.Directed.TheVariants.{Forward, Backward}
use Rattle.vocabulary.specs.declared.facts.Fact.{Fact}
use Rattle.vocabulary.specs.declared.facts.Fact.TheVariants.{InClass, Linked}
use Rattle.vocabulary.specs.declared.numbers.Class.{Class}
use Rattle.vocabulary.specs.declared.numbers.Link.{Link}
use Rattle.vocabulary.specs.declared.rules.Rule.{Rule}
use Rattle.vocabulary.specs.declared.rules.Rule.TheVariants.{Within, LinkWithin}
use mathlib.Core.List.{Memᴰ}

-- a ground atom, over things in place of terms
pub data Ground : Type 0 where
  in_class : Class → Thing → Ground
  linked : Link → Thing → Thing → Ground

-- the ground atom that leads a directed link from x to y
abbrev pub pair : Directed → Thing → Thing → Ground
pair (Forward l) x y = linked l x y
pair (Backward l) x y = linked l y x

-- what shows that x is in a basic class: that it is in the class, or that y is its partner
abbrev pub witness : Basic → Thing → Thing → Ground
witness (Named c) x y = in_class c x
witness (Start d) x y = pair d x y

-- a fact as a ground atom, and the ground atoms that facts give
abbrev pub ground : Fact → Ground
ground (InClass c a) = in_class c (name a)
ground (Linked l a b) = linked l (name a) (name b)

abbrev pub Stored : List Fact → Ground → Type 0
Stored facts g = (f : Fact) × Memᴰ f facts × (ground f ≡ g)

-- what follows from the facts by within rules: `starts` and `ends` make a partner that a rule asks for, `again` and `again_back` make one for what has one
pub data Derived (rules : List Rule) (facts : List Fact) : Ground → Type 0 where
  given : {g : Ground} → Stored facts g → Derived rules facts g
  within : {b : Basic} {c : Class} {x : Thing} → Memᴰ (Within b (Named c)) rules → (y : Thing) → Derived rules facts (witness b x y) → Derived rules facts (in_class c x)
  links : {d : Directed} {l : Link} {x y : Thing} → Memᴰ (LinkWithin d (Forward l)) rules → Derived rules facts (pair d x y) → Derived rules facts (linked l x y)
  turned : {d : Directed} {l : Link} {x y : Thing} → Memᴰ (LinkWithin d (Backward l)) rules → Derived rules facts (pair d x y) → Derived rules facts (linked l y x)
  starts : {b : Basic} {l : Link} {x : Thing} → Memᴰ (Within b (Start (Forward l))) rules → (y : Thing) → Derived rules facts (witness b x y) → Derived rules facts (linked l x (child x (Forward l)))
  ends : {b : Basic} {l : Link} {x : Thing} → Memᴰ (Within b (Start (Backward l))) rules → (y : Thing) → Derived rules facts (witness b x y) → Derived rules facts (linked l (child x (Backward l)) x)
  again : {l : Link} {x : Thing} (y : Thing) → Derived rules facts (linked l x y) → Derived rules facts (linked l x (child x (Forward l)))
  again_back : {l : Link} {x : Thing} (y : Thing) → Derived rules facts (linked l y x) → Derived rules facts (linked l (child x (Backward l)) x)

-- the shape in which just the ground atoms of a set are true
abbrev pub ground_shape : (Ground → Type 0) → Shape
ground_shape P = record { Carrier = Thing; thing = name; class = λ c x. P (in_class c x); link = λ l x y. P (linked l x y) }

module _ (rules : List Rule) (facts : List Fact) where
  -- how many steps a derivation has: one at least
  unfoldable pub size : {g : Ground} → Derived rules facts g → ℕ
  size (given s) = 1
  size (within m y d) = suc (size d)
  size (links m d) = suc (size d)
  size (turned m d) = suc (size d)
  size (starts m y d) = suc (size d)
  size (ends m y d) = suc (size d)
  size (again y d) = suc (size d)
  size (again_back y d) = suc (size d)

  pub size_pos : {g : Ground} (d : Derived rules facts g) → 1 ≤ size d
  unfolding size
  size_pos (given s) = omega arith
  size_pos (within m y d) = omega arith
  size_pos (links m d) = omega arith
  size_pos (turned m d) = omega arith
  size_pos (starts m y d) = omega arith
  size_pos (ends m y d) = omega arith
  size_pos (again y d) = omega arith
  size_pos (again_back y d) = omega arith

  -- derived in k steps at most
  abbrev pub DerivedIn : ℕ → Ground → Type 0
  DerivedIn k g = (d : Derived rules facts g) × (size d ≤ k)
