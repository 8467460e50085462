-- How a table of rewritings grows, step by step.
use Rattle.std.specs.Prelude.{◌≡◌, ℕ, ◌<◌, Bool, ◌⊎◌, List, [], ◌++◌, map, length, drop, Some, Ok, Err, Decides, Result, slice_index_or}
use Rattle.distinct.specs.Items.{items, spare}
use Rattle.distinct.specs.Repeats.{NoRepeats}
use Rattle.distinct.specs.declared.Distinct.{Distinct}
use Rattle.question.specs.Records.{query}
use Rattle.question.specs.Steps.{made_by, merged_by, merging, replaced_by}
use Rattle.question.specs.declared.merging.Merger.{Merger}
use Rattle.question.specs.declared.record.Record.{Record}
use Rattle.theory.specs.Questions.{Query}
use Rattle.theory.specs.Tidying.{tidy}
use Rattle.vocabulary.specs.Faults.{number}
use Rattle.vocabulary.specs.declared.basic.Basic.TheVariants.{Named}
use Rattle.vocabulary.specs.declared.faults.Fault.{Fault}
use Rattle.vocabulary.specs.declared.questions.Atom.TheVariants.{IsIn}
use Rattle.vocabulary.specs.declared.questions.Atom.{Atom}
use Rattle.vocabulary.specs.declared.questions.Term.TheVariants.{Variable}
use Rattle.vocabulary.specs.declared.rules.Rule.TheVariants.{Within}
use Rattle.vocabulary.specs.declared.rules.Rule.{Rule}
use mathlib.Core.List.{Memᴰ}

-- the questions in the table, in order
abbrev pub rows : Distinct Record → List Query
rows d = map query (items d)

-- the equality of records answers whether their questions are the same
abbrev pub Same : Record → Record → Bool → Type 0
Same x y r = Decides r (query x ≡ query y)

-- the table s has grown to t by questions of the set S, which took the first of the free places; the places are lent as they were
pub record Grown (S : Query → Type 0) (s t : Distinct Record) : Type 0 where
  pub more : List Query
  pub is : rows t ≡ rows s ++ more
  pub sound : (x : Query) → Memᴰ x more → S x
  pub apart : NoRepeats Same (items s) → NoRepeats Same (items t)
  pub left : spare t ≡ drop (length more) (spare s)
  pub size : length t.places.now ≡ length s.places.now
  pub lent : t.places.ghost_name ≡ s.places.ghost_name

-- it has the whole set now
pub record Filled (S : Query → Type 0) (s t : Distinct Record) : Type 0 where
  pub grown : Grown S s t
  pub has : (x : Query) → S x → Memᴰ x (rows t)

-- it is full, and one of the set is not in it
pub record Overfull (S : Query → Type 0) (s t : Distinct Record) : Type 0 where
  pub grown : Grown S s t
  pub full : spare t ≡ []
  pub another : Query
  pub one : S another
  pub absent : Memᴰ another (rows t) → ⊥

-- the set was put in, or there were too few places for it
abbrev pub Taken : {X : Type 0} → (Query → Type 0) → Distinct Record → Distinct Record → Result X Fault → Type 0
Taken S s t (Ok x) = Filled S s t
Taken S s t (Err f) = (number f ≡ 11) × Overfull S s t

-- one of the sets P i with i < k
pub record Below (P : ℕ → Query → Type 0) (k : ℕ) (x : Query) : Type 0 where
  pub place : ℕ
  pub low : place < k
  pub what : P place x

abbrev pub atom_at : Query → ℕ → Atom
atom_at p i = slice_index_or p.atoms i (IsIn (record { 0 = 0 }) (Variable 0))

abbrev pub rule_at : List Rule → ℕ → Rule
rule_at rules k = slice_index_or rules k (Within (Named (record { 0 = 0 })) (Named (record { 0 = 0 })))

-- the tidy results of one step of the question p: one rule at the atom i
pub record ByRule (rule : Rule) (p : Query) (i : ℕ) (x : Query) : Type 0 where
  pub atom : Atom
  pub made : made_by rule (atom_at p i) ≡ Some atom
  pub is : x ≡ tidy (replaced_by p i atom)

-- any rule at the atom i, and any rule at any atom
abbrev pub ByRules : List Rule → Query → ℕ → Query → Type 0
ByRules rules p i = Below (λ k. ByRule (rule_at rules k) p i) (length rules)

abbrev pub ByAtoms : List Rule → Query → Query → Type 0
ByAtoms rules p = Below (λ i. ByRules rules p i) (length p.atoms)

-- the atoms i and j merged
pub record ByMerge (p : Query) (i j : ℕ) (x : Query) : Type 0 where
  pub order : i < j
  pub merger : Merger
  pub made : merging (atom_at p i) (atom_at p j) ≡ Some merger
  pub is : x ≡ tidy (merged_by p i j merger)

-- the atom i merged with a later one, and any two merged
abbrev pub ByLater : Query → ℕ → Query → Type 0
ByLater p i = Below (λ j. ByMerge p i j) (length p.atoms)

abbrev pub ByPairs : Query → Query → Type 0
ByPairs p = Below (λ i. ByLater p i) (length p.atoms)

-- any step
abbrev pub Next : List Rule → Query → Query → Type 0
Next rules p x = ByAtoms rules p x ⊎ ByPairs p x
