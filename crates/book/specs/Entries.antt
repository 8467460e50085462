-- What entering a rule into a draft answers, and what the draft then holds.
use Rattle.std.specs.Prelude.{◌≡◌, ℕ, ◌<◌, List, [], ◌∷◌, ◌++◌, length, drop, Ok, Err, Result}
use Rattle.vocabulary.specs.Families.{Takes}
use Rattle.vocabulary.specs.Faults.{number}
use Rattle.vocabulary.specs.Ranges.{RuleFits}
use Rattle.vocabulary.specs.declared.effects.Effect.{Effect}
use Rattle.vocabulary.specs.declared.effects.Effect.TheVariants.{Unchanged, Changed}
use Rattle.vocabulary.specs.declared.faults.Fault.{Fault}
use Rattle.vocabulary.specs.declared.rules.Family.{Family}
use Rattle.vocabulary.specs.declared.rules.Rule.{Rule}
use mathlib.Core.List.{Memᴰ}

-- a rule that a book of the family may hold
pub record Admitted (family : Family) (rule : Rule) : Type 0 where
  pub fits : RuleFits rule
  pub taken : Takes family rule

-- why a rule is refused, by the number of the fault
pub data EntryFault (family : Family) (rules : List Rule) (rule : Rule) : ℕ → Type 0 where
  out_of_range : (RuleFits rule → ⊥) → EntryFault family rules rule 2
  not_of_family : RuleFits rule → (Takes family rule → ⊥) → EntryFault family rules rule 3
  book_full : Admitted family rule → (Memᴰ rule rules → ⊥) → length rules ≡ 256 → EntryFault family rules rule 4

-- the rules before and after
abbrev pub Entered : Family → List Rule → Rule → List Rule → Result Effect Fault → Type 0
Entered family rules rule after (Ok Changed) = Admitted family rule × (Memᴰ rule rules → ⊥) × (length rules < 256) × (after ≡ rules ++ rule ∷ [])
Entered family rules rule after (Ok Unchanged) = Admitted family rule × Memᴰ rule rules × (after ≡ rules)
Entered family rules rule after (Err f) = EntryFault family rules rule (number f) × (after ≡ rules)

-- what the free places hold after: a new rule takes the first of them, and nothing else changes any
abbrev pub left_free : Result Effect Fault → List Rule → List Rule
left_free (Ok Changed) free = drop 1 free
left_free (Ok Unchanged) free = free
left_free (Err f) free = free
