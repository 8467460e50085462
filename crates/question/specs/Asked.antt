-- A question as it is put: what it asks, and why it is refused.
use Rattle.std.specs.Prelude.{◌≡◌, ℕ, ◌<◌, ◌≤◌, map, length, Ok, Err, Result}
use Rattle.question.specs.Records.{query}
use Rattle.question.specs.declared.asked.AskedAtom.TheVariants.{InClass, Linked}
use Rattle.question.specs.declared.asked.AskedAtom.{AskedAtom}
use Rattle.question.specs.declared.asked.AskedTerm.TheVariants.{Variable as Unknown, Named as Known}
use Rattle.question.specs.declared.asked.AskedTerm.{AskedTerm}
use Rattle.question.specs.declared.asked.Question.{Question}
use Rattle.question.specs.declared.record.Record.{Record}
use Rattle.std.specs.List.{AllByRecursion}
use Rattle.theory.specs.Questions.{Query}
use Rattle.theory.specs.Tidying.{all_terms, times}
use Rattle.vocabulary.specs.Faults.{number}
use Rattle.vocabulary.specs.Ranges.{ClassFits, LinkFits, NameFits}
use Rattle.vocabulary.specs.declared.faults.Fault.{Fault}
use Rattle.vocabulary.specs.declared.questions.Atom.TheVariants.{IsIn, Joins}
use Rattle.vocabulary.specs.declared.questions.Atom.{Atom}
use Rattle.vocabulary.specs.declared.questions.Term.TheVariants.{Variable, Constant}
use Rattle.vocabulary.specs.declared.questions.Term.{Term}

-- the question that is asked
abbrev pub asked_term : AskedTerm → Term
asked_term (Unknown n) = Variable n
asked_term (Known a) = Constant a

abbrev pub asked_atom : AskedAtom → Atom
asked_atom (InClass c t) = IsIn c (asked_term t)
asked_atom (Linked l t u) = Joins l (asked_term t) (asked_term u)

abbrev pub asked : Question → Query
asked q = record { head = map Variable q.head.now; atoms = map asked_atom q.atoms.now }

-- every class, link and name is in range
abbrev pub TermInRange : AskedTerm → Type 0
TermInRange (Unknown n) = Unit {0}
TermInRange (Known a) = NameFits a

abbrev pub AtomInRange : AskedAtom → Type 0
AtomInRange (InClass c t) = ClassFits c × TermInRange t
AtomInRange (Linked l t u) = LinkFits l × TermInRange t × TermInRange u

abbrev pub InRange : Question → Type 0
InRange q = AllByRecursion AtomInRange q.atoms.now

-- the head has at most 4 variables, and there are 1 to 6 atoms
abbrev pub Shaped : Question → Type 0
Shaped q = (length q.head.now ≤ 4) × (1 ≤ length q.atoms.now) × (length q.atoms.now ≤ 6)

-- every variable is below 12
abbrev pub TermNumbered : AskedTerm → Type 0
TermNumbered (Unknown n) = n < 12
TermNumbered (Known a) = Unit {0}

abbrev pub AtomNumbered : AskedAtom → Type 0
AtomNumbered (InClass c t) = TermNumbered t
AtomNumbered (Linked l t u) = TermNumbered t × TermNumbered u

abbrev pub Numbered : Question → Type 0
Numbered q = AllByRecursion (λ n. n < 12) q.head.now × AllByRecursion AtomNumbered q.atoms.now

-- every variable of the head stands in an atom
abbrev pub Bound : Question → Type 0
Bound q = AllByRecursion (λ n. 0 < times n (all_terms (asked q).atoms)) q.head.now

-- why no record is made of a question whose numbers are in range, by the number of the fault
pub data RecordFault (q : Question) : ℕ → Type 0 where
  no_shape : (Shaped q → ⊥) → RecordFault q 7
  too_high : Shaped q → (Numbered q → ⊥) → RecordFault q 8
  unbound : Shaped q → Numbered q → (Bound q → ⊥) → RecordFault q 9

-- why a question is refused, by the number of the fault
pub data QuestionFault (q : Question) : ℕ → Type 0 where
  out_of_range : (InRange q → ⊥) → QuestionFault q 2
  no_record : {n : ℕ} → InRange q → RecordFault q n → QuestionFault q n

-- the record of what is asked, or the fault
abbrev pub Recorded : Question → Result Record Fault → Type 0
Recorded q (Ok r) = Shaped q × Numbered q × Bound q × (query r ≡ asked q)
Recorded q (Err f) = RecordFault q (number f)

abbrev pub Tested : Question → Result Record Fault → Type 0
Tested q (Ok r) = InRange q × Recorded q (Ok r)
Tested q (Err f) = QuestionFault q (number f)
