-- What a sealed book answers of a rule.
use Rattle.std.specs.Prelude.{◌≡◌, Bool, List, Ok, Err, Decides, Result}
use Rattle.theory.specs.Worlds.{Follows}
use Rattle.vocabulary.specs.Faults.{number}
use Rattle.vocabulary.specs.Ranges.{RuleFits}
use Rattle.vocabulary.specs.declared.faults.Fault.{Fault}
use Rattle.vocabulary.specs.declared.rules.Rule.{Rule}

-- of a rule in range, whether every world that keeps the rules keeps it; of any other, the range fault
abbrev pub Answered : List Rule → Rule → Result Bool Fault → Type 0
Answered rules rule (Ok r) = RuleFits rule × Decides r (Follows rules rule)
Answered rules rule (Err f) = (RuleFits rule → ⊥) × (number f ≡ 2)
