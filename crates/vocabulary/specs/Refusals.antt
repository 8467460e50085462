-- What the calls that turn codes into values and back answer.
use Rattle.std.specs.Prelude.{◌≡◌, ℕ, ◌≤◌, ◌≢◌, Ok, Err, Result}
use Rattle.vocabulary.specs.declared.faults.Fault.{Fault}
use Rattle.vocabulary.specs.declared.rules.Family.{Family}
use Rattle.vocabulary.specs.Families.{family_code}
use Rattle.vocabulary.specs.Faults.{number}

-- the value in range that has the code k, which there is for each code below n; above, the range fault
abbrev pub Decoded : {X : Type 0} → (X → Type 0) → (X → ℕ) → ℕ → ℕ → Result X Fault → Type 0
Decoded Fits code n k (Ok x) = Fits x × (code x ≡ k)
Decoded Fits code n k (Err f) = (n ≤ k) × (number f ≡ 2)

-- the code of a value in range; of any other, the range fault
abbrev pub Encoded : {X : Type 0} → (X → Type 0) → (X → ℕ) → X → Result ℕ Fault → Type 0
Encoded Fits code x (Ok k) = Fits x × (k ≡ code x)
Encoded Fits code x (Err f) = (Fits x → ⊥) × (number f ≡ 2)

-- the family that has the code k; where none has it, the fault of the family code
abbrev pub FamilyOf : ℕ → Result Family Fault → Type 0
FamilyOf k (Ok family) = family_code family ≡ k
FamilyOf k (Err f) = ((family : Family) → family_code family ≢ k) × (number f ≡ 1)
