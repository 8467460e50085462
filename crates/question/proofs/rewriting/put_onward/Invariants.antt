use Rattle.std.proofs.Common.{◌≡◌, ◌-◌, List, length}
use Rattle.question.proofs.rewriting.put_onward.Given as goal
use Rattle.question.specs.Work.{Working}
use Rattle.question.specs.declared.record.Record.{Record}
use Rattle.theory.specs.Questions.{Query}

abbrev pub invariant-loop-next : goal.invariant-loop-next
invariant-loop-next l =
    ((q : Query) (before : List Record) → Working l.rules q before l.initial.table 0 → Working l.rules q before l.table l.done)
    × (length l.table.places.now ≡ length l.initial.table.places.now)
    × (l.table.places.ghost_name ≡ l.initial.table.places.ghost_name)

abbrev pub decreases-loop-next : goal.decreases-loop-next
decreases-loop-next l = length l.initial.table.places.now - l.done
