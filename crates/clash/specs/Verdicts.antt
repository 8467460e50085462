-- What the check of rules and facts answers, in worlds.
use Rattle.std.specs.Prelude.{◌≡◌, ℕ, ◌<◌, List, [], ◌∷◌, Some, None, Option}
use Rattle.std.specs.List.{slice_get}
use Rattle.theory.specs.Worlds.{SiteWorld}
use Rattle.vocabulary.specs.declared.facts.Clash.{Clash}
use Rattle.vocabulary.specs.declared.facts.Clash.TheVariants.{One, Two}
use Rattle.vocabulary.specs.declared.facts.Fact.{Fact}
use Rattle.vocabulary.specs.declared.rules.Rule.{Rule}

-- the rules have a world with this fact alone, or with these two
abbrev pub Alone : List Rule → Fact → Type 0
Alone rules f = SiteWorld rules (f ∷ [])

abbrev pub Together : List Rule → Fact → Fact → Type 0
Together rules f g = SiteWorld rules (f ∷ (g ∷ []))

-- f has no world alone, and each fact before it has one
pub record OneBlamed (rules : List Rule) (xs : List Fact) (f : Fact) : Type 0 where
  pub no_world : ¬ (SiteWorld rules xs)
  pub place : ℕ
  pub here : slice_get xs place ≡ Some f
  pub alone : ¬ (Alone rules f)
  pub earlier : (k : ℕ) (h : Fact) → k < place → slice_get xs k ≡ Some h → Alone rules h

-- each fact has a world alone, and f and a later g have none together; a fact before f has one together with any other, and f with each fact between the two
pub record TwoBlamed (rules : List Rule) (xs : List Fact) (f g : Fact) : Type 0 where
  pub no_world : ¬ (SiteWorld rules xs)
  pub each_alone : (k : ℕ) (h : Fact) → slice_get xs k ≡ Some h → Alone rules h
  pub first : ℕ
  pub second : ℕ
  pub order : first < second
  pub at_first : slice_get xs first ≡ Some f
  pub at_second : slice_get xs second ≡ Some g
  pub together : ¬ (Together rules f g)
  pub lower_first : (k m : ℕ) (h h' : Fact) → k < first → slice_get xs k ≡ Some h → slice_get xs m ≡ Some h' → Together rules h h'
  pub lower_second : (m : ℕ) (h : Fact) → first < m → m < second → slice_get xs m ≡ Some h → Together rules f h

-- the answer of the check: none, or what is to blame
abbrev pub Checked : List Rule → List Fact → Option Clash → Type 0
Checked rules xs None = SiteWorld rules xs
Checked rules xs (Some (One f)) = OneBlamed rules xs f
Checked rules xs (Some (Two f g)) = TwoBlamed rules xs f g

-- no other answer has its values
abbrev pub Settled : List Rule → List Fact → Option Clash → Type 0
Settled rules xs r = (v : Option Clash) → Checked rules xs v → v ≡ r
