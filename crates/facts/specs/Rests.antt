-- What is left of a source's facts to one who goes through them.
use Rattle.facts.specs.declared.each.Facts.{Facts}
use Rattle.std.specs.Prelude.{List, drop}
use Rattle.vocabulary.specs.declared.facts.Fact.{Fact}

-- `facts` says which facts a source has
abbrev pub rest : {S : Type 0} → (S → List Fact) → Facts S → List Fact
rest facts it = drop it.next (facts it.source.now)
