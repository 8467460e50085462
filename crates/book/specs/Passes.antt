-- What the test before a draft is opened answers.
use Rattle.std.specs.Prelude.{◌≡◌, ℕ, ◌≢◌, Ok, Err, Result}
use Rattle.book.specs.declared.pass.Pass.{Pass}
use Rattle.vocabulary.specs.Families.{family_code}
use Rattle.vocabulary.specs.Faults.{number}
use Rattle.vocabulary.specs.declared.faults.Fault.{Fault}
use Rattle.vocabulary.specs.declared.rules.Family.{Family}

-- how many rules, words for basic classes and words for directed links the three tables of a book have
pub record Sized (rules basic links : ℕ) : Type 0 where
  pub of_rules : rules ≡ 256
  pub of_basic : basic ≡ 256
  pub of_links : links ≡ 64

-- why a family code and three lengths are refused, by the number of the fault
pub data TestFault (code rules basic links : ℕ) : ℕ → Type 0 where
  no_family : ((family : Family) → family_code family ≢ code) → TestFault code rules basic links 1
  no_length : (family : Family) → family_code family ≡ code → (Sized rules basic links → ⊥) → TestFault code rules basic links 5

abbrev pub Tested : ℕ → ℕ → ℕ → ℕ → Result Pass Fault → Type 0
Tested code rules basic links (Ok pass) = (family_code pass.family ≡ code) × Sized rules basic links
Tested code rules basic links (Err f) = TestFault code rules basic links (number f)
