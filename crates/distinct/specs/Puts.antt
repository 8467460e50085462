-- What putting an element does to a list.
use Rattle.distinct.specs.Items.{items, spare}
use Rattle.distinct.specs.Repeats.{Absent, Present}
use Rattle.distinct.specs.declared.Distinct.{Distinct}
use Rattle.distinct.specs.declared.Full.{Full}
use Rattle.std.specs.Prelude.{◌≡◌, Bool, true, false, ◌≢◌, [], ◌∷◌, ◌++◌, Ok, Err, Result, drop}

-- s before and t after x was put: items and free places together are the whole of the lent places
abbrev pub Outcome : {X : Type 0} → (X → X → Bool → Type 0) → Distinct X → X → Distinct X → Result Bool Full → Type 0
Outcome E s x t (Ok true) = Absent E (items s) x × (spare s ≢ []) × (items t ≡ items s ++ x ∷ []) × (spare t ≡ drop 1 (spare s))
Outcome E s x t (Ok false) = Present E (items s) x × (items t ≡ items s) × (spare t ≡ spare s)
Outcome E s x t (Err full) = Absent E (items s) x × (spare s ≡ []) × (items t ≡ items s) × (spare t ≡ spare s)
