-- What a pass over the places of facts finds: the first that clashes alone, or the first two that clash.
use Rattle.std.specs.Prelude.{◌≡◌, ℕ, ◌<◌, List, Some}
use Rattle.std.specs.List.{slice_get}
use Rattle.theory.specs.Clashes.{Clash}
use Rattle.vocabulary.specs.declared.facts.Fact.{Fact}
use Rattle.vocabulary.specs.declared.rules.Family.{Family}
use Rattle.vocabulary.specs.declared.rules.Rule.{Rule}

-- the facts at two places do not clash
abbrev pub CalmAt : Family → List Rule → List Fact → ℕ → ℕ → Type 0
CalmAt family rules xs i j = (f g : Fact) → slice_get xs i ≡ Some f → slice_get xs j ≡ Some g → ¬ (Clash family rules f g)

-- no fact clashes alone
abbrev pub NoneAlone : Family → List Rule → List Fact → Type 0
NoneAlone family rules xs = (k : ℕ) → CalmAt family rules xs k k

-- no fact clashes with a later one
abbrev pub AllCalm : Family → List Rule → List Fact → Type 0
AllCalm family rules xs = (k m : ℕ) → k < m → CalmAt family rules xs k m

-- f clashes alone, and no fact before it does
pub record FirstAlone (family : Family) (rules : List Rule) (xs : List Fact) (f : Fact) : Type 0 where
  pub place : ℕ
  pub here : slice_get xs place ≡ Some f
  pub clashes : Clash family rules f f
  pub earlier : (k : ℕ) → k < place → CalmAt family rules xs k k

-- f clashes with a later g; no fact before f clashes with one after itself, and f with none between the two
pub record FirstPair (family : Family) (rules : List Rule) (xs : List Fact) (f g : Fact) : Type 0 where
  pub first : ℕ
  pub second : ℕ
  pub order : first < second
  pub at_first : slice_get xs first ≡ Some f
  pub at_second : slice_get xs second ≡ Some g
  pub clashes : Clash family rules f g
  pub rows : (k : ℕ) → k < first → (m : ℕ) → k < m → CalmAt family rules xs k m
  pub row : (m : ℕ) → m < second → first < m → CalmAt family rules xs first m
