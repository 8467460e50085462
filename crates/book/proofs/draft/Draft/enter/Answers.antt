use Rattle.book.proofs.Listing.{entered_put, full_length}
use Rattle.distinct.proofs.Decided.{kept_same, outcome_same, outcome_told}
use Rattle.distinct.proofs.Told.{told_full, told_ok}
use Rattle.vocabulary.specs.Equality.{rule_eq, rule_eq_same}
use Rattle.distinct.proofs.Sameness.{Same, absent_not, all_put, different_repeats, repeats_different}
use Rattle.book.proofs.draft.Draft.enter.Goals as goal
use Rattle.book.specs.Entries.{Admitted, book_full, not_of_family, out_of_range}
use Rattle.distinct.specs.Items.{items}
use Rattle.std.proofs.lemmas.Bool.{false≢true}
use Rattle.std.proofs.lemmas.Result.{err_from_is_err_and}
use Rattle.vocabulary.specs.declared.faults.Fault.TheVariants.{BookFull}
use mathlib.Core.Logic.{∥∥₁_map}
use Rattle.std.proofs.Common.{◌≡◌, refl, ◌∙◌, rules}

pub returns-then-not-fits : goal.returns-then-not-fits
returns-then-not-fits c = record {
  entered = (out_of_range (λ h. false≢true (c.if-not-fits.ensures.1 h)), refl);
  places = refl;
  family = refl;
  tables = (refl, refl);
}

pub returns-then-not-takes : goal.returns-then-not-takes
returns-then-not-takes c = record {
  entered = (not_of_family (c.if-not-fits.ensures.0 refl) (λ h. false≢true (c.if-not-takes.ensures.1 h)), refl);
  places = refl;
  family = refl;
  tables = (refl, refl);
}

pub invariant_of-self : goal.invariant_of-self
invariant_of-self c =
    let s = c.args.self.now in
    let t = c.put.new.self in
    let e = c.put.ensures in
    let fine : Admitted s.family c.args.rule = record { fits = c.if-not-fits.ensures.0 refl; taken = c.if-not-takes.ensures.0 refl } in
    record {
      sized = (e.room ∙ s.sized.0, s.sized.1, s.sized.2);
      admitted = ∥∥₁_map s.admitted (all_put Same (Admitted s.family) s.rules t c.args.rule c.put.result (outcome_same rule_eq rule_eq_same s.rules t c.args.rule c.put.result e.outcome) fine);
      different = ∥∥₁_map s.different (λ h. repeats_different (items t) (kept_same rule_eq rule_eq_same (items s.rules) (items t) e.distinct (different_repeats (items s.rules) h)));
    }

pub returns : goal.returns
returns c =
    let s = c.args.self.now in
    let fine : Admitted s.family c.args.rule = record { fits = c.if-not-fits.ensures.0 refl; taken = c.if-not-takes.ensures.0 refl } in
    let told = told_ok _ _ c.put.result c.in_ok-new.new c.in_ok-new.ensures.cases c.in_ok-new.ensures.variant in
    let o = outcome_told rule_eq rule_eq_same s.rules c.put.new.self c.args.rule told c.put.ensures.outcome in
    let p = entered_put s.family s.rules c.put.new.self c.args.rule c.in_ok-new.new fine s.sized.0 o in
    rw c.from.ensures record { entered = p.0; places = p.1; family = refl; tables = (refl, refl) }

pub returns-in_err-new : goal.returns-in_err-new
returns-in_err-new c =
    let s = c.args.self.now in
    let fine : Admitted s.family c.args.rule = record { fits = c.if-not-fits.ensures.0 refl; taken = c.if-not-takes.ensures.0 refl } in
    let p = err_from_is_err_and c.from_residual.result c.from_residual.ensures.1 in
    let told = told_full c.put.result c.in_err-new.ensures.variant in
    let o = outcome_told rule_eq rule_eq_same s.rules c.put.new.self c.args.rule told.1 c.put.ensures.outcome in
    let n : c.in_err-new.field-0.0 ≡ BookFull = search rules in
    rw (p.1, p.2, n)
    record {
      entered = (book_full fine (absent_not (items s.rules) c.args.rule o.0) (full_length s.rules.len s.rules.places.now s.sized.0 o.1), o.2);
      places = o.3;
      family = refl;
      tables = (refl, refl);
    }
