-- The number of each fault, and what it carries.
use Rattle.std.specs.Prelude.{ℕ, Some, None, Option}
use Rattle.vocabulary.specs.declared.facts.Clash.{Clash}
use Rattle.vocabulary.specs.declared.faults.Fault.{Fault}
use Rattle.vocabulary.specs.declared.faults.Fault.TheVariants.{Family, Range, Form, BookFull, Length, NotTaken, Shape, Variable, Unbound, Clashing, Rewritings, Rows}

-- no two faults have one number, so a contract that gives the number names the fault
abbrev pub number : Fault → ℕ
number Family = 1
number Range = 2
number Form = 3
number BookFull = 4
number Length = 5
number NotTaken = 6
number Shape = 7
number Variable = 8
number Unbound = 9
number (Clashing c) = 10
number Rewritings = 11
number Rows = 12

-- only the fault of a clashing file carries anything, and that is its clash
abbrev pub clash_of : Fault → Option Clash
clash_of Family = None
clash_of Range = None
clash_of Form = None
clash_of BookFull = None
clash_of Length = None
clash_of NotTaken = None
clash_of Shape = None
clash_of Variable = None
clash_of Unbound = None
clash_of (Clashing c) = Some c
clash_of Rewritings = None
clash_of Rows = None
