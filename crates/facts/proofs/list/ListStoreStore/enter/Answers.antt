use Rattle.distinct.proofs.Decided.{kept_same, outcome_same, outcome_told}
use Rattle.distinct.proofs.Sameness.{Same, absent_not, all_put, different_repeats, repeats_different}
use Rattle.distinct.proofs.Told.{told_full, told_ok}
use Rattle.distinct.specs.Items.{items}
use Rattle.facts.proofs.Places.{full, kept, untouched}
use Rattle.facts.proofs.Told.{entered_put}
use Rattle.facts.proofs.list.ListStoreStore.enter.Goals as goal
use Rattle.facts.specs.Changes.{not_taken, out_of_range}
use Rattle.facts.specs.Passes.{ListPlaces}
use Rattle.std.proofs.lemmas.Bool.{false≢true}
use Rattle.std.proofs.lemmas.Result.{err_from_is_err_and}
use Rattle.vocabulary.specs.declared.faults.Fault.TheVariants.{NotTaken}
use Rattle.vocabulary.specs.Equality.{fact_eq, fact_eq_same}
use Rattle.vocabulary.specs.Ranges.{FactFits}
use Rattle.std.proofs.Common.{◌≡◌, length, sym, refl, subst, rules}
use mathlib.Core.Logic.{∥∥₁_map}

pub returns-then-not-fits-clause-entered : goal.returns-then-not-fits-clause-entered
returns-then-not-fits-clause-entered c = (out_of_range (λ h. false≢true (c.if-not-fits.ensures.1 h)), untouched)

pub invariant_of-self : goal.invariant_of-self
invariant_of-self c =
    let s = c.args.self.now in
    let t = c.put.new.self in
    let e = c.put.ensures in
    let o = outcome_same fact_eq fact_eq_same s.held t c.args.fact c.put.result e.outcome in
    record {
      sized = subst ListPlaces (sym e.room) s.sized;
      different =
          ∥∥₁_map s.different (λ h. repeats_different (items t) (kept_same fact_eq fact_eq_same (items s.held) (items t) e.distinct (different_repeats (items s.held) h)));
      fitting = ∥∥₁_map s.fitting (all_put Same FactFits s.held t c.args.fact c.put.result o (c.if-not-fits.ensures.0 refl));
    }

pub returns : goal.returns
returns c =
    let s = c.args.self.now in
    let t = c.put.new.self in
    let f = c.args.fact in
    let told = told_ok _ _ c.put.result c.in_ok-new.new c.in_ok-new.ensures.cases c.in_ok-new.ensures.variant in
    let o = outcome_told fact_eq fact_eq_same s.held t f told c.put.ensures.outcome in
    let p = entered_put s.held t f c.in_ok-new.new (c.if-not-fits.ensures.0 refl) c.put.ensures.room o in
    rw c.from.ensures record { entered = p.0; order = p.1; places = p.2 }

pub returns-in_err-new-clause-entered : goal.returns-in_err-new-clause-entered
returns-in_err-new-clause-entered c =
    let s = c.args.self.now in
    let t = c.put.new.self in
    let f = c.args.fact in
    let p = err_from_is_err_and c.from_residual.result c.from_residual.ensures.1 in
    let told = told_full c.put.result c.in_err-new.ensures.variant in
    let o = outcome_told fact_eq fact_eq_same s.held t f told.1 c.put.ensures.outcome in
    let n : c.in_err-new.field-0.0 ≡ NotTaken = search rules in
    rw (p.1, p.2, n)
    (not_taken (c.if-not-fits.ensures.0 refl) (absent_not (items s.held) f o.0) (full s.held.len s.held.places.now o.1), kept (length s.held.places.now) _ (items s.held) _ c.put.ensures.room o.2)
