-- Questions, and which rows are true of one.
use Rattle.std.specs.Prelude.{◌≡◌, ℕ, List, map}
use Rattle.std.specs.List.{AllByRecursion}
use Rattle.theory.specs.Lists.{Matched}
use Rattle.theory.specs.Worlds.{Shape}
use Rattle.vocabulary.specs.declared.facts.Fact.{Fact}
use Rattle.vocabulary.specs.declared.facts.Fact.TheVariants.{InClass, Linked}
use Rattle.vocabulary.specs.declared.numbers.Name.{Name}
use Rattle.vocabulary.specs.declared.questions.Atom.{Atom}
use Rattle.vocabulary.specs.declared.questions.Atom.TheVariants.{IsIn, Joins}
use Rattle.vocabulary.specs.declared.questions.Term.{Term}
use Rattle.vocabulary.specs.declared.questions.Term.TheVariants.{Variable, Constant, Open}
use mathlib.Core.List.{Memᴰ}

-- a conjunctive question: its head, and its atoms in order
pub record Query : Type 0 where
  pub head : List Term
  pub atoms : List Atom

-- the thing x serves for a term, where each name and each variable has a thing; for the open term any thing serves
abbrev pub Serves : {A : Type 0} → (Name → A) → (ℕ → A) → Term → A → Type 0
Serves names v (Variable n) x = v n ≡ x
Serves names v (Constant a) x = names a ≡ x
Serves names v Open x = Unit {0}

-- the atom is true of things that serve for its terms
abbrev pub Holds : (s : Shape) → (ℕ → s.Carrier) → Atom → Type 0
Holds s v (IsIn c t) = (x : s.Carrier) × Serves s.thing v t x × s.class c x
Holds s v (Joins l t u) = (x : s.Carrier) × (y : s.Carrier) × Serves s.thing v t x × Serves s.thing v u y × s.link l x y

-- the row is true of the question: variables can be given things so that the head gets those of the row and every atom holds
abbrev pub True : Shape → Query → List Name → Type 0
True s q row = (v : ℕ → s.Carrier) × Matched (Serves s.thing v) q.head (map s.thing row) × AllByRecursion (Holds s v) q.atoms

-- the facts alone: every name is its own thing, and nothing is true but what a fact says
abbrev pub stored : List Fact → Shape
stored facts = record { Carrier = Name; thing = λ a. a; class = λ c a. Memᴰ (InClass c a) facts; link = λ l a b. Memᴰ (Linked l a b) facts }
