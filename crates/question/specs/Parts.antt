-- The question that parts make up, and what tidying them asks for.
use Rattle.std.specs.Prelude.{◌≡◌, ℕ, true, List}
use Rattle.question.specs.Shorts.{listed}
use Rattle.question.specs.declared.parts.Parts.{Parts}
use Rattle.theory.specs.Questions.{Query}
use Rattle.theory.specs.Tidying.{known}
use Rattle.vocabulary.specs.declared.questions.Atom.TheVariants.{IsIn, Joins}
use Rattle.vocabulary.specs.declared.questions.Atom.{Atom}
use Rattle.vocabulary.specs.declared.questions.Term.TheVariants.{Variable, Constant, Open}
use Rattle.vocabulary.specs.declared.questions.Term.{Term}

abbrev pub of_parts : Parts → Query
of_parts p = record { head = listed p.head; atoms = listed p.atoms }

-- it holds of each term of the atom
abbrev pub OfAtom : (Term → Type 0) → Atom → Type 0
OfAtom P (IsIn c t) = P t
OfAtom P (Joins l t u) = P t × P u

-- the order has a place for the term
abbrev pub Placed : List ℕ → Term → Type 0
Placed order (Variable n) = known n order ≡ true
Placed order (Constant a) = Unit {0}
Placed order Open = Unit {0}
