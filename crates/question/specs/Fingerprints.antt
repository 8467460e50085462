-- A number that stands for a question: equal questions have equal ones, and different ones hardly ever do.
use Rattle.std.specs.Prelude.{ℕ, ◌+◌, ◌*◌, ◌%◌, List}
use Rattle.std.specs.List.{fold}
use Rattle.theory.specs.Questions.{Query}
use Rattle.vocabulary.specs.declared.questions.Atom.TheVariants.{IsIn, Joins}
use Rattle.vocabulary.specs.declared.questions.Atom.{Atom}
use Rattle.vocabulary.specs.declared.questions.Term.TheVariants.{Variable, Constant, Open}
use Rattle.vocabulary.specs.declared.questions.Term.{Term}

abbrev pub term_code : Term → ℕ
term_code (Variable n) = n
term_code (Constant a) = 256 + a.0
term_code Open = 65792

-- one more number mixed in
abbrev pub mixed : ℕ → ℕ → ℕ
mixed h k = (h * 16777619 + k) % 4294967296

abbrev pub print_terms : ℕ → List Term → ℕ
print_terms h ts = fold (λ h t. mixed h (term_code t)) h ts

abbrev pub print_atom : ℕ → Atom → ℕ
print_atom h (IsIn c t) = mixed (mixed h c.0) (term_code t)
print_atom h (Joins l t u) = mixed (mixed (mixed h (256 + l.0)) (term_code t)) (term_code u)

abbrev pub print_atoms : ℕ → List Atom → ℕ
print_atoms h xs = fold print_atom h xs

abbrev pub fingerprint : Query → ℕ
fingerprint q = print_atoms (print_terms 0 q.head) q.atoms
