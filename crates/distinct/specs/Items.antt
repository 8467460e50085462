-- A list over lent places: its items are what the first places hold.
use Rattle.distinct.specs.declared.Distinct.{Distinct}
use Rattle.std.specs.Prelude.{List, take, drop}

abbrev pub items : {X : Type 0} → Distinct X → List X
items d = take d.len d.places.now

-- what the free places hold
abbrev pub spare : {X : Type 0} → Distinct X → List X
spare d = drop d.len d.places.now
