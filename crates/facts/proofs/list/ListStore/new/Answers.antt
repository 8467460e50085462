use Rattle.std.proofs.Common.{sym, subst}
use Rattle.distinct.proofs.Sameness.{different_none}
use Rattle.distinct.specs.Repeats.{Different}
use Rattle.facts.proofs.list.ListStore.new.Goals as goal
use Rattle.facts.specs.Passes.{ListPlaces}
use Rattle.std.specs.List.{AllByRecursion}
use Rattle.vocabulary.specs.Ranges.{FactFits}

pub invariant_of-result : goal.invariant_of-result
invariant_of-result c =
    let e = c.new-held.ensures in
    record {
      sized = subst ListPlaces (sym e.room) c.requires;
      different = ∣ subst Different (sym e.empty) different_none ∣₁;
      fitting = ∣ subst (AllByRecursion FactFits) (sym e.empty) tt ∣₁;
    }
