-- Rules and facts settle the answer of the check: at most one has its values.
use Rattle.std.proofs.Common.{◌≡◌, ℕ, ◌<◌, List, Some, None, Option, sym, refl, ap, subst, ap₂, inl, inr}
use Rattle.clash.specs.Verdicts.{Checked, OneBlamed, Together, TwoBlamed}
use Rattle.std.proofs.lemmas.Bool.{cases_order}
use Rattle.std.specs.List.{slice_get}
use Rattle.vocabulary.specs.declared.facts.Clash.{Clash}
use Rattle.vocabulary.specs.declared.facts.Clash.TheVariants.{One, Two}
use Rattle.vocabulary.specs.declared.facts.Fact.{Fact}
use Rattle.vocabulary.specs.declared.rules.Rule.{Rule}

module _ (rules : List Rule) (xs : List Fact) where
  -- one place has one fact
  one_fact : (i j : ℕ) (f g : Fact) → i ≡ j → slice_get xs i ≡ Some f → slice_get xs j ≡ Some g → f ≡ g
  one_fact i j f g e p q = let h : slice_get xs i ≡ slice_get xs j = ap (slice_get xs) e in cc

  one_one : (f g : Fact) → OneBlamed rules xs f → OneBlamed rules xs g → f ≡ g
  one_one f g h k =
      elim (cases_order h.place k.place) [
        | inl e ↦ one_fact h.place k.place f g e h.here k.here
        | inr (inl l) ↦ absurd (h.alone (k.earlier h.place f l h.here))
        | inr (inr l) ↦ absurd (k.alone (h.earlier k.place g l k.here))
      ]

  firsts : (f g f' g' : Fact) (h : TwoBlamed rules xs f g) (k : TwoBlamed rules xs f' g') → h.first ≡ k.first
  firsts f g f' g' h k =
      elim (cases_order h.first k.first) [
        | inl e ↦ e
        | inr (inl l) ↦ absurd (h.together (k.lower_first h.first h.second f g l h.at_first h.at_second))
        | inr (inr l) ↦ absurd (k.together (h.lower_first k.first k.second f' g' l k.at_first k.at_second))
      ]

  seconds : (f g f' g' : Fact) (h : TwoBlamed rules xs f g) (k : TwoBlamed rules xs f' g') → h.first ≡ k.first → f ≡ f' → g ≡ g'
  seconds f g f' g' h k e same =
      elim (cases_order h.second k.second) [
        | inl o ↦ one_fact h.second k.second g g' o h.at_second k.at_second
        | inr (inl l) ↦
            absurd (h.together (subst (λ (x : Fact). Together rules x g) (sym same) (k.lower_second h.second g (subst (λ (i : ℕ). i < h.second) e h.order) l h.at_second)))
        | inr (inr l) ↦
            absurd (k.together (subst (λ (x : Fact). Together rules x g') same (h.lower_second k.second g' (subst (λ (i : ℕ). i < k.second) (sym e) k.order) l k.at_second)))
      ]

  two_two : (f g f' g' : Fact) → TwoBlamed rules xs f g → TwoBlamed rules xs f' g' → Two f g ≡ Two f' g'
  two_two f g f' g' h k =
      let e = firsts f g f' g' h k in
      let same = one_fact h.first k.first f f' e h.at_first k.at_first in
      ap₂ Two same (seconds f g f' g' h k e same)

  pub settled : (v w : Option Clash) → Checked rules xs v → Checked rules xs w → w ≡ v
  settled None None h k = refl
  settled None (Some (One f)) h k = absurd (k.no_world h)
  settled None (Some (Two f g)) h k = absurd (k.no_world h)
  settled (Some (One f)) None h k = absurd (h.no_world k)
  settled (Some (One f)) (Some (One g)) h k = ap (λ (x : Fact). Some (One x)) (one_one g f k h)
  settled (Some (One f)) (Some (Two g g')) h k = absurd (h.alone (k.each_alone h.place f h.here))
  settled (Some (Two f g)) None h k = absurd (h.no_world k)
  settled (Some (Two f g)) (Some (One f')) h k = absurd (k.alone (h.each_alone k.place f' k.here))
  settled (Some (Two f g)) (Some (Two f' g')) h k = ap Some (two_two f' g' f g k h)
