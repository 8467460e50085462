-- What the test before a list store is made answers.
use Rattle.std.specs.Prelude.{◌≡◌, ℕ, ◌≤◌, Ok, Err, Result}
use Rattle.facts.specs.declared.pass.ListPass.{ListPass}
use Rattle.vocabulary.specs.Faults.{number}
use Rattle.vocabulary.specs.declared.faults.Fault.{Fault}

-- how many places the table of a list store may have
abbrev pub ListPlaces : ℕ → Type 0
ListPlaces n = (128 ≤ n) × (n ≤ 4096)

abbrev pub ListTested : ℕ → Result ListPass Fault → Type 0
ListTested n (Ok pass) = ListPlaces n
ListTested n (Err e) = (ListPlaces n → ⊥) × (number e ≡ 5)
