-- What a word writes as a number.
use Rattle.std.specs.Prelude.{◌≡◌, ℕ, min, List, Option, MatchOption}
use Rattle.std.specs.Str.Parse.{IsNumeral, digits_value}

-- decimal digits give their number, or most where that is smaller; any other word gives none
abbrev pub Reads : ℕ → List ℕ → Option ℕ → Type 0
Reads most word r = MatchOption r (IsNumeral 10 word → ⊥) (λ n. IsNumeral 10 word × (n ≡ min (digits_value 10 word) most))
