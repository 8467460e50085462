-- The number that an entry or a withdrawal answers.
use Rattle.std.specs.Prelude.{ℕ, Bool, true, false}
use Rattle.vocabulary.specs.declared.effects.Effect.{Effect}
use Rattle.vocabulary.specs.declared.effects.Effect.TheVariants.{Unchanged, Changed}

abbrev pub effect_number : Effect → ℕ
effect_number Unchanged = 0
effect_number Changed = 1

abbrev pub effect_of : Bool → Effect
effect_of false = Unchanged
effect_of true = Changed
