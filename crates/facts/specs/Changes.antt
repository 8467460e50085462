-- What entering a fact in a store and withdrawing one answer, and what the store then means.
-- T and T' say which facts it takes, before and after, where it lists these and lacks them.
use Rattle.std.specs.Prelude.{◌≡◌, ℕ, ◌+◌, ◌<◌, ◌⊎◌, ◌↔◌, List, length, Ok, Err, Result}
use Rattle.vocabulary.specs.Faults.{number}
use Rattle.vocabulary.specs.Ranges.{ClassFits, FactFits, LinkFits}
use Rattle.vocabulary.specs.declared.effects.Effect.{Effect}
use Rattle.vocabulary.specs.declared.effects.Effect.TheVariants.{Changed, Unchanged}
use Rattle.vocabulary.specs.declared.facts.Fact.{Fact}
use Rattle.vocabulary.specs.declared.facts.Fact.TheVariants.{InClass, Linked}
use Rattle.vocabulary.specs.declared.faults.Fault.{Fault}
use mathlib.Core.List.{Memᴰ}

-- a fact in range whose names are below n
abbrev pub NamesBelow : ℕ → Fact → Type 0
NamesBelow n (InClass c a) = ClassFits c × (a.0 < n)
NamesBelow n (Linked l a b) = LinkFits l × (a.0 < n) × (b.0 < n)

-- ys has what xs has, and f besides, which xs lacks; the order is the store's own
pub record Added (f : Fact) (xs ys : List Fact) : Type 0 where
  pub new : Memᴰ f xs → ⊥
  pub has : Memᴰ f ys
  pub keeps : (g : Fact) → Memᴰ g xs → Memᴰ g ys
  pub only : (g : Fact) → Memᴰ g ys → (g ≡ f) ⊎ Memᴰ g xs
  pub count : length ys ≡ length xs + 1

-- the store means what it meant: the same list, and it takes the same facts
pub record Kept (T T' : List Fact → Fact → Type 0) (xs ys : List Fact) : Type 0 where
  pub list : ys ≡ xs
  pub takes : (g : Fact) → T xs g ↔ T' ys g

-- why a fact is not entered, by the number of the fault
pub data EntryFault (takes : Type 0) (xs : List Fact) (f : Fact) : ℕ → Type 0 where
  out_of_range : (FactFits f → ⊥) → EntryFault takes xs f 2
  not_taken : FactFits f → (Memᴰ f xs → ⊥) → (takes → ⊥) → EntryFault takes xs f 6

-- the facts xs before and ys after f was entered
abbrev pub Entered : (T T' : List Fact → Fact → Type 0) → List Fact → Fact → List Fact → Result Effect Fault → Type 0
Entered T T' xs f ys (Ok Changed) = FactFits f × T xs f × Added f xs ys
Entered T T' xs f ys (Ok Unchanged) = Memᴰ f xs × Kept T T' xs ys
Entered T T' xs f ys (Err e) = EntryFault (T xs f) xs f (number e) × Kept T T' xs ys

-- the facts xs before and ys after f was withdrawn
abbrev pub Withdrawn : (T T' : List Fact → Fact → Type 0) → List Fact → Fact → List Fact → Result Effect Fault → Type 0
Withdrawn T T' xs f ys (Ok Changed) = Added f ys xs × T' ys f
Withdrawn T T' xs f ys (Ok Unchanged) = FactFits f × (Memᴰ f xs → ⊥) × Kept T T' xs ys
Withdrawn T T' xs f ys (Err e) = (FactFits f → ⊥) × (number e ≡ 2) × Kept T T' xs ys
