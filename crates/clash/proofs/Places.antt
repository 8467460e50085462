-- Places where no two facts clash.
use Rattle.std.proofs.Common.{◌≡◌, ℕ, List, Some, subst₂}
use Rattle.clash.specs.Searches.{CalmAt}
use Rattle.std.specs.List.{slice_get}
use Rattle.theory.specs.Clashes.{Clash}
use Rattle.vocabulary.specs.declared.facts.Fact.{Fact}
use Rattle.vocabulary.specs.declared.rules.Family.{Family}
use Rattle.vocabulary.specs.declared.rules.Rule.{Rule}

module _ (family : Family) (rules : List Rule) (xs : List Fact) where
  -- two facts that do not clash
  pub calm_here : (i j : ℕ) (f g : Fact) → slice_get xs i ≡ Some f → slice_get xs j ≡ Some g → ¬ (Clash family rules f g) → CalmAt family rules xs i j
  calm_here i j f g p q calm f' g' p' q' c =
      let first : f' ≡ f = cc in
      let second : g' ≡ g = cc in
      calm (subst₂ (Clash family rules) first second c)
