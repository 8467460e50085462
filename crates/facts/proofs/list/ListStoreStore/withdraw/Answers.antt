use Rattle.distinct.proofs.Decided.{kept_same, removal_same}
use Rattle.distinct.proofs.Sameness.{Same, all_removed, different_had, different_repeats, repeats_different}
use Rattle.distinct.specs.Items.{items}
use Rattle.facts.proofs.Told.{withdrawn_removed}
use Rattle.facts.proofs.list.ListStoreStore.withdraw.Goals as goal
use Rattle.facts.specs.Passes.{ListPlaces}
use Rattle.vocabulary.specs.Equality.{fact_eq, fact_eq_same}
use Rattle.vocabulary.specs.Ranges.{FactFits}
use Rattle.std.proofs.Common.{sym, refl, subst}
use mathlib.Core.Logic.{∥∥₁_map}

pub invariant_of-self : goal.invariant_of-self
invariant_of-self c =
    let s = c.args.self.now in
    let t = c.remove.new.self in
    let e = c.remove.ensures in
    let o = removal_same fact_eq fact_eq_same s.held t c.args.fact c.remove.result e.removal in
    record {
      sized = subst ListPlaces (sym e.room) s.sized;
      different =
          ∥∥₁_map s.different (λ h. repeats_different (items t) (kept_same fact_eq fact_eq_same (items s.held) (items t) e.distinct (different_repeats (items s.held) h)));
      fitting = ∥∥₁_map s.fitting (all_removed Same FactFits s.held t c.args.fact c.remove.result o);
    }

pub returns : goal.returns
returns c =
    let s = c.args.self.now in
    let e = c.remove.ensures in
    let o = removal_same fact_eq fact_eq_same s.held c.remove.new.self c.args.fact c.remove.result e.removal in
    let p = withdrawn_removed s.held c.remove.new.self c.args.fact c.remove.result (c.if-not-fits.ensures.0 refl) (different_had (items s.held) s.different) e.room o in
    rw c.from.ensures record { withdrawn = p.0; order = p.1; places = p.2 }
