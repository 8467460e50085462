-- The rules of a draft: that they fit and are lawful, and how many there are.
use Rattle.std.proofs.Common.{◌≡◌, ℕ, ◌<◌, ◌≢◌, Bool, true, false, List, [], ◌∷◌, length, get_or, take, drop, Ok, ap, inl, inr, arith, length-drop, length-take}
use Rattle.book.specs.Entries.{Admitted, Entered, left_free}
use Rattle.distinct.proofs.Sameness.{Same, absent_not, present_member}
use Rattle.distinct.specs.Items.{items, spare}
use Rattle.distinct.specs.Puts.{Outcome}
use Rattle.distinct.specs.declared.Distinct.{Distinct}
use Rattle.vocabulary.specs.Effects.{effect_of}
use Rattle.book.specs.Growth.{AllFit}
use Rattle.std.proofs.lemmas.List.{drop_all}
use Rattle.std.proofs.lemmas.Bool.{cases_lt}
use Rattle.theory.proofs.Laws.{lawful}
use Rattle.theory.specs.Clashes.{Lawful}
use Rattle.std.specs.List.{AllByRecursion}
use Rattle.vocabulary.specs.Families.{Takes}
use Rattle.vocabulary.specs.Ranges.{BasicFits, DirectedFits, RuleFits}
use Rattle.vocabulary.specs.declared.basic.Basic.{Basic}
use Rattle.vocabulary.specs.declared.basic.Basic.TheVariants.{Named, Start}
use Rattle.vocabulary.specs.declared.basic.Directed.{Directed}
use Rattle.vocabulary.specs.declared.basic.Directed.TheVariants.{Forward, Backward}
use Rattle.vocabulary.specs.declared.rules.Family.{Family}
use Rattle.vocabulary.specs.declared.rules.Rule.{Rule}
use Rattle.vocabulary.specs.declared.rules.Rule.TheVariants.{Within, Apart, LinkWithin, LinkApart, Single}
use Rattle.std.proofs.ByRecursion.{All-get_or}
use mathlib.Core.HLevel.{×_prop, ⊥_prop}
use mathlib.Core.Logic.{∥∥₁_elim}
use native.Mathlib.Bridge.{le_prop}

-- ---- that rules fit can be had from the fact that some proof says it

directed_prop : (d : Directed) → IsProp (DirectedFits d)
directed_prop (Forward l) = le_prop
directed_prop (Backward l) = le_prop

basic_prop : (b : Basic) → IsProp (BasicFits b)
basic_prop (Named c) = le_prop
basic_prop (Start d) = directed_prop d

rule_prop : (r : Rule) → IsProp (RuleFits r)
rule_prop (Within b c) = ×_prop (basic_prop b) (basic_prop c)
rule_prop (Apart b c) = ×_prop (basic_prop b) (basic_prop c)
rule_prop (LinkWithin d e) = ×_prop (directed_prop d) (directed_prop e)
rule_prop (LinkApart d e) = ×_prop (directed_prop d) (directed_prop e)
rule_prop (Single d) = directed_prop d

pub all_fit : (family : Family) (rules : List Rule) → ∥ AllByRecursion (Admitted family) rules ∥₁ → AllFit rules
all_fit family rules h i r l = ∥∥₁_elim h (rule_prop (get_or rules i r)) (λ all. (All-get_or (Admitted family) rules i r l all).fits)

pub fit_at : (rules : List Rule) → ∥ AllFit rules ∥₁ → (i : ℕ) (r : Rule) → i < length rules → RuleFits (get_or rules i r)
fit_at rules h i r l = ∥∥₁_elim h (rule_prop (get_or rules i r)) (λ all. all i r l)

-- ---- how many rules there are, by what lies behind them

pub room_left : {A : Type 0} (n : ℕ) (xs : List A) → length xs ≡ 256 → drop n xs ≢ [] → length (take n xs) < 256
room_left n xs e h =
    elim (cases_lt n (length xs)) [
      | inl l ↦ omega (arith, length-take n xs)
      | inr l ↦ absurd (h (drop_all n xs l))
    ]

pub full_length : {A : Type 0} (n : ℕ) (xs : List A) → length xs ≡ 256 → drop n xs ≡ [] → length (take n xs) ≡ 256
full_length n xs e h = omega (arith, length-take n xs, length-drop n xs, ap length h)

-- ---- that rules are lawful, likewise

all_taken : (family : Family) (rules : List Rule) → AllByRecursion (Admitted family) rules → AllByRecursion (Takes family) rules
all_taken family [] h = tt
all_taken family (r ∷ rules) h = (h.0.taken, all_taken family rules h.1)

pub all_lawful : (family : Family) (rules : List Rule) → ∥ AllByRecursion (Admitted family) rules ∥₁ → Lawful rules
all_lawful family rules h d e m s = ∥∥₁_elim h ⊥_prop (λ all. lawful family rules (all_taken family rules all) d e m s)

-- what an entry says of a rule that was put, or stood
pub entered_put : (family : Family) (s t : Distinct Rule) (rule : Rule) (new : Bool) → Admitted family rule → length s.places.now ≡ 256 → Outcome Same s rule t (Ok new) →
    Entered family (items s) rule (items t) (Ok (effect_of new)) × (spare t ≡ left_free (Ok (effect_of new)) (spare s))
entered_put family s t rule true fine sized o = ((fine, absent_not (items s) rule o.0, room_left s.len s.places.now sized o.1, o.2), o.3)
entered_put family s t rule false fine sized o = ((fine, present_member (items s) rule o.0, o.1), o.2)
