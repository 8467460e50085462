-- The rules of one family are lawful: either no link is single, or no rule puts a link within another.
use Rattle.theory.proofs.Lists.{each}
use Rattle.std.specs.List.{AllByRecursion}
use Rattle.theory.specs.Reaching.{LinkStep, along, back}
use Rattle.vocabulary.specs.Families.{Takes}
use Rattle.vocabulary.specs.declared.basic.Directed.{Directed}
use Rattle.vocabulary.specs.declared.rules.Family.{Family}
use Rattle.vocabulary.specs.declared.rules.Family.TheVariants.{R, F}
use Rattle.vocabulary.specs.declared.rules.Rule.{Rule}
use Rattle.vocabulary.specs.declared.rules.Rule.TheVariants.{Single}
use Rattle.std.proofs.Common.{List}
use mathlib.Core.List.{Memᴰ}

pub lawful : (family : Family) (rules : List Rule) → AllByRecursion (Takes family) rules → (d e : Directed) → Memᴰ (Single d) rules → LinkStep rules e d → ⊥
lawful R rules takes d e m s = each (Takes R) takes m
lawful F rules takes d e m (along k) = each (Takes F) takes k
lawful F rules takes d e m (back k) = each (Takes F) takes k
