-- Repeats by an equality E: `E x y r` says that r is what `x == y` may answer.
use Rattle.std.specs.Prelude.{◌≡◌, ℕ, ◌<◌, Bool, true, false, ◌≢◌, List, length, slice_index_or}

-- the equality whose answer is the function eq
abbrev pub Answers : {X : Type 0} → (X → X → Bool) → X → X → Bool → Type 0
Answers eq x y r = r ≡ eq x y

-- no item equals x
abbrev pub Absent : {X : Type 0} → (X → X → Bool → Type 0) → List X → X → Type 0
Absent {X} E xs x = (k : ℕ) (d : X) → k < length xs → E (slice_index_or xs k d) x false

-- some item equals x
abbrev pub Present : {X : Type 0} → (X → X → Bool → Type 0) → List X → X → Type 0
Present {X} E xs x = (k : ℕ) × (k < length xs) × ((d : X) → E (slice_index_or xs k d) x true)

-- no item equals a later one
abbrev pub NoRepeats : {X : Type 0} → (X → X → Bool → Type 0) → List X → Type 0
NoRepeats {X} E xs = (i j : ℕ) (d : X) → (i < j) × (j < length xs) → E (slice_index_or xs i d) (slice_index_or xs j d) false

-- no element stands twice; where `==` answers whether two elements are the same, that is to have no repeats
abbrev pub Different : {X : Type 0} → List X → Type 0
Different {X} xs = (i j : ℕ) (d : X) → (i < j) × (j < length xs) → slice_index_or xs i d ≢ slice_index_or xs j d
