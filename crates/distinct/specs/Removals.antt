-- What taking an element out does to a list.
use Rattle.std.specs.Prelude.{◌≡◌, ℕ, ◌<◌, Bool, true, false, List, ◌∷◌, ◌++◌, length, take, drop, Some, None, Option, slice_index_or}
use Rattle.distinct.specs.Items.{items, spare}
use Rattle.distinct.specs.Repeats.{Absent}
use Rattle.distinct.specs.declared.Distinct.{Distinct}

-- the place of the first item that equals x
abbrev pub FirstPlace : {X : Type 0} → (X → X → Bool → Type 0) → List X → X → Option ℕ → Type 0
FirstPlace E xs x None = Absent E xs x
FirstPlace {X} E xs x (Some i) = (i < length xs) × ((d : X) → E (slice_index_or xs i d) x true) × Absent E (take i xs) x

-- ys is xs without the first item that equals x; all others keep their order
pub record Without {X : Type 0} (E : X → X → Bool → Type 0) (x : X) (xs ys : List X) : Type 0 where
  pub front : List X
  pub item : X
  pub back : List X
  pub was : xs ≡ front ++ item ∷ back
  pub is : ys ≡ front ++ back
  pub equal : E item x true
  pub first : Absent E front x

-- s before and t after x was taken out: of the free places, all but the new one are as they were
abbrev pub Removal : {X : Type 0} → (X → X → Bool → Type 0) → Distinct X → X → Distinct X → Bool → Type 0
Removal E s x t true = Without E x (items s) (items t) × (drop 1 (spare t) ≡ spare s)
Removal E s x t false = Absent E (items s) x × (t ≡ s)
