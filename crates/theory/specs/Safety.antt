-- Safe questions: every variable of the head stands in an atom too.
use Rattle.std.specs.List.{AllByRecursion}
use Rattle.theory.specs.Questions.{Query}
use Rattle.theory.specs.Tidying.{all_terms}
use Rattle.vocabulary.specs.declared.questions.Atom.{Atom}
use Rattle.vocabulary.specs.declared.questions.Term.{Term}
use Rattle.vocabulary.specs.declared.questions.Term.TheVariants.{Variable, Constant, Open}
use Rattle.std.specs.Prelude.{List}
use mathlib.Core.List.{Memᴰ}

-- a name, or a variable that stands in one of the atoms; never the open term
abbrev pub Covered : List Atom → Term → Type 0
Covered atoms (Variable n) = Memᴰ (Variable n) (all_terms atoms)
Covered atoms (Constant a) = Unit {0}
Covered atoms Open = ⊥

-- every term of the head is covered by the atoms
abbrev pub Safe : Query → Type 0
Safe q = AllByRecursion (Covered q.atoms) q.head
