-- That a fact is in range is a proposition, so it comes out of a ghost field that says that some proof shows it.
use Rattle.std.specs.List.{AllByRecursion, AllByRecursion-prop}
use Rattle.vocabulary.specs.Ranges.{FactFits}
use Rattle.vocabulary.specs.declared.facts.Fact.{Fact}
use Rattle.vocabulary.specs.declared.facts.Fact.TheVariants.{InClass, Linked}
use mathlib.Core.HLevel.{×_prop, ×₃_prop}
use Rattle.std.proofs.Common.{List}
use mathlib.Core.Logic.{∥∥₁_elim}
use native.Mathlib.Bridge.{le_prop}

pub fact_prop : (f : Fact) → IsProp (FactFits f)
fact_prop (InClass c a) = ×_prop le_prop le_prop
fact_prop (Linked l a b) = ×₃_prop le_prop le_prop le_prop

pub facts_had : (xs : List Fact) → ∥ AllByRecursion FactFits xs ∥₁ → AllByRecursion FactFits xs
facts_had xs h = ∥∥₁_elim h (AllByRecursion-prop FactFits fact_prop xs) (λ p. p)
