-- The question that a record stands for, and what `==` answers of two questions.
use Rattle.std.specs.Prelude.{◌≡◌, Bool, ◌&&◌, Decides}
use Rattle.std.specs.Cmp.Lexicographic.{pointwise, pointwise_decides}
use Rattle.std.proofs.Common.{ap}
use Rattle.std.proofs.lemmas.Bool.Decides.{Decides-and, Decides-like}
use Rattle.question.specs.Parts.{of_parts}
use Rattle.question.specs.declared.record.Record.{Record}
use Rattle.theory.specs.Questions.{Query}
use Rattle.vocabulary.specs.Equality.{atom_eq, atom_eq_same, term_eq, term_eq_same}

abbrev pub query : Record → Query
query r = of_parts r.parts

-- heads and atoms are equal, place by place
abbrev pub query_eq : Query → Query → Bool
query_eq p q = pointwise term_eq p.head q.head && pointwise atom_eq p.atoms q.atoms

-- that is so exactly of one question
pub query_eq_same : (p q : Query) → Decides (query_eq p q) (p ≡ q)
query_eq_same p q =
    Decides-like (query_eq p q)
    (λ (e, g). λ i. record { head = e i; atoms = g i })
    (λ e. (ap (λ (r : Query). r.head) e, ap (λ (r : Query). r.atoms) e))
    (Decides-and (pointwise term_eq p.head q.head) (pointwise atom_eq p.atoms q.atoms) (pointwise_decides term_eq_same p.head q.head) (pointwise_decides atom_eq_same p.atoms q.atoms))
