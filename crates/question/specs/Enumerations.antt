-- What the call for all rewritings answers.
use Rattle.std.specs.Prelude.{◌≡◌, ℕ, ◌<◌, ◌≤◌, ◌≢◌, List, map, length, take, drop, Ok, Err, Result, slice_index_or}
use Rattle.question.specs.Records.{query}
use Rattle.question.specs.declared.record.Record.{Record}
use Rattle.theory.specs.Questions.{Query}
use Rattle.theory.specs.Rewritings.{Rewriting}
use Rattle.vocabulary.specs.Faults.{number}
use Rattle.vocabulary.specs.declared.faults.Fault.{Fault}
use Rattle.vocabulary.specs.declared.rules.Rule.{Rule}
use mathlib.Core.List.{Memᴰ}

-- no two of the records stand for one question
abbrev pub Different : List Record → Type 0
Different records = (i j : ℕ) (d : Record) → (i < j) × (j < length records) → query (slice_index_or records i d) ≢ query (slice_index_or records j d)

-- the first n places hold every rewriting of the question, each once, and nothing else; later places are as they were
pub record AllRewritings (rules : List Rule) (q : Query) (before after : List Record) (n : ℕ) : Type 0 where
  pub fits : n ≤ length after
  pub sound : (x : Query) → Memᴰ x (map query (take n after)) → Rewriting rules q x
  pub complete : (x : Query) → Rewriting rules q x → Memᴰ x (map query (take n after))
  pub different : Different (take n after)
  pub untouched : drop n after ≡ drop n before

-- every place holds a rewriting, no two the same, and there is another one that none of them holds
pub record MoreRewritings (rules : List Rule) (q : Query) (after : List Record) : Type 0 where
  pub sound : (x : Query) → Memᴰ x (map query after) → Rewriting rules q x
  pub different : Different after
  pub another : Query
  pub one : Rewriting rules q another
  pub absent : Memᴰ another (map query after) → ⊥

-- the count of rewritings, or fault 11 exactly if they outnumber the places
abbrev pub Enumerated : List Rule → Query → List Record → List Record → Result ℕ Fault → Type 0
Enumerated rules q before after (Ok n) = AllRewritings rules q before after n
Enumerated rules q before after (Err f) = (number f ≡ 11) × MoreRewritings rules q after
