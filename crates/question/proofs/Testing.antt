-- What tests decide.
use Rattle.std.proofs.Common.{◌≡◌, Bool, true, false, Ok, Err, Decides, Result, sym, refl, subst}
use Rattle.question.specs.Asked.{InRange, Recorded, Tested, no_record}
use Rattle.question.specs.Records.{query_eq, query_eq_same}
use Rattle.question.specs.declared.asked.Question.{Question}
use Rattle.question.specs.declared.record.Record.{Record}
use Rattle.std.proofs.lemmas.Bool.Decides.{same_from_decides}
use Rattle.std.proofs.lemmas.Bool.{false≢true}
use Rattle.theory.specs.Questions.{Query}
use Rattle.vocabulary.specs.declared.faults.Fault.{Fault}

pub not_decided : {P : Type 0} → Decides false P → P → ⊥
not_decided d p = false≢true (d.1 p)

pub decided : {P : Type 0} → Decides true P → P
decided d = d.0 refl

pub tested : (q : Question) (r : Result Record Fault) → InRange q → Recorded q r → Tested q r
tested q (Ok r) h k = (h, k)
tested q (Err f) h k = no_record h k

-- two questions are the same where `query_eq` says so
pub query_decided : (p q : Query) {r : Bool} → r ≡ query_eq p q → Decides r (p ≡ q)
query_decided p q e = subst (λ (b : Bool). Decides b (p ≡ q)) (sym e) (query_eq_same p q)

pub query_differs : (p q : Query) → (p ≡ q → ⊥) → false ≡ query_eq p q
query_differs p q differs = same_from_decides false (query_eq p q) (λ e. absurd (false≢true e), λ e. absurd (differs e)) (query_eq_same p q)
