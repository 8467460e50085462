-- How stores are made, and over which tables.
use Rattle.std.specs.Prelude.{ℕ, min, ◌%◌, ◌≡◌, ◌≤◌, ltb, cond}
use Rattle.bitstore.specs.Layout.{bytes}
use Rattle.facts.specs.Passes.{ListPlaces}
use Rattle.script.specs.declared.calls.Making.{Making}
use Rattle.script.specs.declared.calls.Making.TheVariants.{List, Bits}

-- how many places a list store is given
abbrev pub table_of_list : ℕ → ℕ
table_of_list count = min count 4097

-- how many bytes a bit store is given
abbrev pub table_of_bits : ℕ → ℕ
table_of_bits names = cond (ltb 120 names) 0 (bytes names)

-- a bit store can be made for names below this number
abbrev pub BitNames : ℕ → Type 0
BitNames names = (names % 8 ≡ 0) × (64 ≤ names) × (names ≤ 120)

-- a store can be so made
abbrev pub Possible : Making → Type 0
Possible making = ((count : ℕ) → making ≡ List count → ListPlaces count) × ((names : ℕ) → making ≡ Bits names → BitNames names)
