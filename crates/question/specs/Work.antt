-- The table of rewritings as a list of work.
use Rattle.std.specs.Prelude.{◌≡◌, ℕ, ◌≤◌, List, length, take, drop, Ok, Err, Result}
use Rattle.distinct.specs.Items.{items, spare}
use Rattle.distinct.specs.Repeats.{NoRepeats}
use Rattle.distinct.specs.declared.Distinct.{Distinct}
use Rattle.question.specs.Enumerations.{AllRewritings, MoreRewritings}
use Rattle.question.specs.Growth.{Same, rows}
use Rattle.question.specs.declared.record.Record.{Record}
use Rattle.theory.specs.Questions.{Query}
use Rattle.theory.specs.Rewritings.{OneStep, Rewriting}
use Rattle.theory.specs.Tidying.{tidy}
use Rattle.vocabulary.specs.Faults.{number}
use Rattle.vocabulary.specs.declared.faults.Fault.{Fault}
use Rattle.vocabulary.specs.declared.rules.Rule.{Rule}
use mathlib.Core.List.{Memᴰ}

-- the first k questions have had their turn; `before` is what the places held at the start
pub record Working (rules : List Rule) (q : Query) (before : List Record) (d : Distinct Record) (k : ℕ) : Type 0 where
  pub reached : k ≤ length (items d)
  pub sound : (x : Query) → Memᴰ x (rows d) → Rewriting rules q x
  pub start : Memᴰ (tidy q) (rows d)
  pub closed : (x : Query) → Memᴰ x (take k (rows d)) → (y : Query) → OneStep rules x y → Memᴰ (tidy y) (rows d)
  pub apart : NoRepeats Same (items d)
  pub left : spare d ≡ drop (length (rows d)) before
  pub size : length d.places.now ≡ length before

-- the work done: all rewritings are in the table, or there are more than places
abbrev pub Worked : {X : Type 0} → List Rule → Query → List Record → Distinct Record → Result X Fault → Type 0
Worked rules q before d (Ok x) = AllRewritings rules q before d.places.now (length (items d))
Worked rules q before d (Err f) = (number f ≡ 11) × MoreRewritings rules q d.places.now
