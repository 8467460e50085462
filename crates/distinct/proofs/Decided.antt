-- An equality whose answer is a function that decides whether two elements are the same: what the list promises by that answer, said of sameness.
use Rattle.std.proofs.Common.{◌≡◌, Bool, true, false, List, Decides, Ok, Err, Result, sym, subst}
use Rattle.distinct.proofs.Sameness.{Same, member_told}
use Rattle.distinct.specs.Items.{items}
use Rattle.distinct.specs.Puts.{Outcome}
use Rattle.distinct.specs.Removals.{Removal, Without}
use Rattle.distinct.specs.Repeats.{Absent, Answers, NoRepeats, Present}
use Rattle.distinct.specs.declared.Distinct.{Distinct}
use Rattle.distinct.specs.declared.Full.{Full}
use Rattle.std.specs.Bool.{one_answer}
use Rattle.std.specs.List.{IsAnyAnswer}
use Rattle.std.specs.Prelude.{MatchBool}
use mathlib.Core.List.{Memᴰ}

module _ {X : Type 0} {E F : X → X → Bool → Type 0} (like : (x y : X) (r : Bool) → E x y r → F x y r) where
  pub absent_like : (xs : List X) (x : X) → Absent E xs x → Absent F xs x
  absent_like xs x h k d l = like _ x false (h k d l)

  pub present_like : (xs : List X) (x : X) → Present E xs x → Present F xs x
  present_like xs x (k, l, e) = (k, l, λ d. like _ x true (e d))

  pub has_like : (xs : List X) (x : X) (r : Bool) → MatchBool r (Present E xs x) (Absent E xs x) → MatchBool r (Present F xs x) (Absent F xs x)
  has_like xs x true h = present_like xs x h
  has_like xs x false h = absent_like xs x h

  pub no_repeats_like : (xs : List X) → NoRepeats E xs → NoRepeats F xs
  no_repeats_like xs h i j d l = like _ _ false (h i j d l)

  pub outcome_like : (s t : Distinct X) (x : X) (r : Result Bool Full) → Outcome E s x t r → Outcome F s x t r
  outcome_like s t x (Ok true) o = (absent_like (items s) x o.0, o.1, o.2, o.3)
  outcome_like s t x (Ok false) o = (present_like (items s) x o.0, o.1, o.2)
  outcome_like s t x (Err full) o = (absent_like (items s) x o.0, o.1, o.2, o.3)

  pub without_like : {x : X} {xs ys : List X} → Without E x xs ys → Without F x xs ys
  without_like {x} w = record {
    front = w.front;
    item = w.item;
    back = w.back;
    was = w.was;
    is = w.is;
    equal = like w.item x true w.equal;
    first = absent_like w.front x w.first;
  }

  pub removal_like : (s t : Distinct X) (x : X) (r : Bool) → Removal E s x t r → Removal F s x t r
  removal_like s t x true o = (without_like o.0, o.1)
  removal_like s t x false o = (absent_like (items s) x o.0, o.1)

module _ {X : Type 0} (eq : X → X → Bool) (decides : (x y : X) → Decides (eq x y) (x ≡ y)) where
  pub answers_same : (x y : X) (r : Bool) → Answers eq x y r → Same x y r
  answers_same x y r h = subst (λ (b : Bool). Decides b (x ≡ y)) (sym h) (decides x y)

  pub same_answers : (x y : X) (r : Bool) → Same x y r → Answers eq x y r
  same_answers x y r h = one_answer r (eq x y) h (decides x y)

  pub has_same : (xs : List X) (x : X) (r : Bool) → MatchBool r (Present (Answers eq) xs x) (Absent (Answers eq) xs x) → MatchBool r (Present Same xs x) (Absent Same xs x)
  has_same = has_like answers_same

  pub outcome_same : (s t : Distinct X) (x : X) (r : Result Bool Full) → Outcome (Answers eq) s x t r → Outcome Same s x t r
  outcome_same = outcome_like answers_same

  -- the same, where it is known what the put answered
  pub outcome_told : (s t : Distinct X) (x : X) {r told : Result Bool Full} → r ≡ told → Outcome (Answers eq) s x t r → Outcome Same s x t told
  outcome_told s t x e o = subst (Outcome Same s x t) e (outcome_same s t x _ o)

  pub removal_same : (s t : Distinct X) (x : X) (r : Bool) → Removal (Answers eq) s x t r → Removal Same s x t r
  removal_same = removal_like answers_same

  -- that putting or taking out keeps a list free of repeats
  pub kept_same : (xs ys : List X) → (NoRepeats (Answers eq) xs → NoRepeats (Answers eq) ys) → NoRepeats Same xs → NoRepeats Same ys
  kept_same xs ys keeps h = no_repeats_like answers_same ys (keeps (no_repeats_like same_answers xs h))

  -- what `contains` answers
  pub member_answered : (xs : List X) (x : X) (r : Bool) → IsAnyAnswer (λ y b. eq y x ≡ b) xs r → Decides r (Memᴰ x xs)
  member_answered xs x true (k, l, h) = member_told xs x true (k, l, λ d. answers_same _ x true (sym (h d)))
  member_answered xs x false h = member_told xs x false (λ k d m l. answers_same _ x false (sym (h k d m l)))
