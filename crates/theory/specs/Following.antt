-- What reaching and the exclusion closure say of a rule.
use Rattle.theory.specs.Closure.{Excluded, classes, links}
use Rattle.theory.specs.Reaching.{LinkStep, Reaches, Step}
use Rattle.vocabulary.specs.Codes.{turn}
use Rattle.vocabulary.specs.declared.basic.Basic.{Basic}
use Rattle.vocabulary.specs.declared.basic.Basic.TheVariants.{Start}
use Rattle.vocabulary.specs.declared.rules.Family.{Family}
use Rattle.vocabulary.specs.declared.rules.Rule.{Rule}
use Rattle.vocabulary.specs.declared.rules.Rule.TheVariants.{Within, Apart, LinkWithin, LinkApart, Single}
use Rattle.std.specs.Prelude.{◌⊎◌, List}
use mathlib.Core.List.{Memᴰ}

-- a basic class that excludes itself; a directed link d is empty where `Start d` is
abbrev pub Empty : Family → List Rule → Basic → Type 0
Empty family rules b = Excluded family rules (classes b b)

-- the condition under which a rule follows from the rules
abbrev pub Implied : Family → List Rule → Rule → Type 0
Implied family rules (Within b c) = Reaches (Step rules) b c ⊎ Empty family rules b
Implied family rules (Apart b c) = Excluded family rules (classes b c) ⊎ (Empty family rules b ⊎ Empty family rules c)
Implied family rules (LinkWithin d e) = Reaches (LinkStep rules) d e ⊎ Empty family rules (Start d)
Implied family rules (LinkApart d e) =
    Excluded family rules (links d e)
    ⊎ (Excluded family rules (classes (Start d) (Start e))
    ⊎ (Excluded family rules (classes (Start (turn d)) (Start (turn e)))
    ⊎ (Empty family rules (Start d) ⊎ Empty family rules (Start e))))
Implied family rules (Single d) = Memᴰ (Single d) rules ⊎ Empty family rules (Start d)
