-- What a family decides: its code, the forms of rules that it takes, and what an empty link excludes.
use Rattle.std.specs.Prelude.{ℕ}
use Rattle.vocabulary.specs.declared.rules.Family.{Family}
use Rattle.vocabulary.specs.declared.rules.Family.TheVariants.{R, F}
use Rattle.vocabulary.specs.declared.rules.Rule.{Rule}
use Rattle.vocabulary.specs.declared.rules.Rule.TheVariants.{Within, Apart, LinkWithin, LinkApart, Single}

abbrev pub family_code : Family → ℕ
family_code R = 0
family_code F = 1

-- both families have rules on basic classes, only R has rules on links, and only F has single links
abbrev pub Takes : Family → Rule → Type 0
Takes family (Within b c) = Unit {0}
Takes family (Apart b c) = Unit {0}
Takes R (LinkWithin d e) = Unit {0}
Takes F (LinkWithin d e) = ⊥
Takes R (LinkApart d e) = Unit {0}
Takes F (LinkApart d e) = ⊥
Takes R (Single d) = ⊥
Takes F (Single d) = Unit {0}

-- in family R a link that is empty excludes itself as a link too, in family F only its start and its end do
abbrev pub LinksToo : Family → Type 0
LinksToo R = Unit {0}
LinksToo F = ⊥
