use Rattle.std.specs.Str.Iter.{bytes_rest}
use Rattle.script.proofs.Reading.{Sofar}
use Rattle.script.proofs.words.number.Given as goal

abbrev pub invariant-loop-b : goal.invariant-loop-b
invariant-loop-b l = Sofar l.word l.n (bytes_rest l.b-iterator)
