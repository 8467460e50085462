-- One step in the words of the program: what a rule makes of an atom, and how two atoms merge.
use Rattle.std.specs.Prelude.{◌≡◌, ℕ, cond, [], ◌∷◌, Some, None, Option, ◌==◌, slice_set}
use Rattle.question.specs.Parts.{of_parts}
use Rattle.question.specs.declared.merging.Merger.{Merger}
use Rattle.question.specs.declared.parts.Parts.{Parts}
use Rattle.std.specs.List.{remove}
use Rattle.std.specs.Option.{option_and_then, option_map}
use Rattle.theory.specs.Questions.{Query}
use Rattle.theory.specs.Rewritings.{Becomes, Merges, about, apply, filled, joining, unify}
use Rattle.theory.specs.Tidying.{on_query}
use Rattle.vocabulary.specs.declared.basic.Basic.TheVariants.{Named, Start}
use Rattle.vocabulary.specs.declared.basic.Directed.TheVariants.{Forward, Backward}
use Rattle.vocabulary.specs.declared.numbers.Class.{Class}
use Rattle.vocabulary.specs.declared.numbers.Link.{Link}
use Rattle.vocabulary.specs.declared.questions.Atom.TheVariants.{IsIn, Joins}
use Rattle.vocabulary.specs.declared.questions.Atom.{Atom}
use Rattle.vocabulary.specs.declared.questions.Term.TheVariants.{Variable, Constant, Open}
use Rattle.vocabulary.specs.declared.questions.Term.{Term}
use Rattle.vocabulary.specs.declared.questions.Unifier.TheVariants.{Trivial}
use Rattle.vocabulary.specs.declared.rules.Rule.TheVariants.{Within, Apart, LinkWithin, LinkApart, Single}
use Rattle.vocabulary.specs.declared.rules.Rule.{Rule}

-- the atom, if the term is open
abbrev pub only_open : Term → Atom → Option Atom
only_open Open a = Some a
only_open (Variable n) a = None
only_open (Constant b) a = None

-- what one rule makes of an atom, by cases
abbrev pub made_by : Rule → Atom → Option Atom
made_by (Within b (Named c)) (IsIn d t) = cond (c.0 == d.0) (Some (about b t)) None
made_by (Within b (Named c)) (Joins l t u) = None
made_by (Within b (Start (Forward k))) (IsIn d t) = None
made_by (Within b (Start (Forward k))) (Joins l t u) = cond (k.0 == l.0) (only_open u (about b t)) None
made_by (Within b (Start (Backward k))) (IsIn d t) = None
made_by (Within b (Start (Backward k))) (Joins l t u) = cond (k.0 == l.0) (only_open t (about b u)) None
made_by (LinkWithin d (Forward k)) (IsIn e t) = None
made_by (LinkWithin d (Forward k)) (Joins l t u) = cond (k.0 == l.0) (Some (joining d t u)) None
made_by (LinkWithin d (Backward k)) (IsIn e t) = None
made_by (LinkWithin d (Backward k)) (Joins l t u) = cond (k.0 == l.0) (Some (joining d u t)) None
made_by (Apart b c) a = None
made_by (LinkApart d e) a = None
made_by (Single d) a = None

-- o is all that the rule makes of the atom
abbrev pub Made : Rule → Atom → Option Atom → Type 0
Made rule a o = (b : Atom) → (o ≡ Some b → Becomes (rule ∷ []) a b) × (Becomes (rule ∷ []) a b → o ≡ Some b)

-- how two atoms of one class or one link merge, if something makes their terms equal
abbrev pub merging_classes : Class → Term → Term → Option Merger
merging_classes c t t' = option_map (λ k. record { atom = IsIn c (filled t t'); first = k; second = Trivial }) (unify t t')

unfoldable pub merging_links : Link → Term → Term → Term → Term → Option Merger
merging_links l t u t' u' =
    option_and_then
    (λ k. option_map (λ j. record { atom = Joins l (filled t t') (filled u u'); first = k; second = j }) (unify (apply (Some k) u) (apply (Some k) u')))
    (unify t t')

-- how two atoms merge, by cases
abbrev pub merging : Atom → Atom → Option Merger
merging (IsIn c t) (IsIn d t') = cond (c.0 == d.0) (merging_classes c t t') None
merging (IsIn c t) (Joins l u v) = None
merging (Joins l t u) (IsIn c v) = None
merging (Joins l t u) (Joins m t' u') = cond (l.0 == m.0) (merging_links l t u t' u') None

-- what becomes of every term
abbrev pub merges_to : Merger → Term → Term
merges_to m t = apply (Some m.second) (apply (Some m.first) t)

-- o is the one way in which the two atoms merge
pub record MergesAs (a b : Atom) (o : Option Merger) : Type 0 where
  pub sound : (m : Merger) → o ≡ Some m → Merges a b m.atom (merges_to m)
  pub complete : (c : Atom) (f : Term → Term) → Merges a b c f → (m : Merger) × (o ≡ Some m) × (m.atom ≡ c) × (merges_to m ≡ f)

-- the question with the atom at i replaced
abbrev pub replaced_by : Query → ℕ → Atom → Query
replaced_by p i a = record { head = p.head; atoms = slice_set p.atoms i a }

-- the question with the atoms at i and j merged as m says
abbrev pub merged_by : Query → ℕ → ℕ → Merger → Query
merged_by p i j m = on_query (merges_to m) (record { head = p.head; atoms = remove (slice_set p.atoms i m.atom) j })

-- the atoms a and b, at i and j, merge into the question o, or they do not merge
abbrev pub MergesAt : Query → Atom → Atom → ℕ → ℕ → Option Parts → Type 0
MergesAt p a b i j None = merging a b ≡ None
MergesAt p a b i j (Some s) = (m : Merger) × (merging a b ≡ Some m) × (of_parts s ≡ merged_by p i j m)
