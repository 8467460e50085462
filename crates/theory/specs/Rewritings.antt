-- The rewritings of a question by the within rules of a book (PerfectRef).
use Rattle.theory.specs.Questions.{Query}
use Rattle.theory.specs.Tidying.{on_query, tidy}
use Rattle.vocabulary.specs.declared.basic.Basic.{Basic}
use Rattle.vocabulary.specs.declared.basic.Basic.TheVariants.{Named, Start}
use Rattle.vocabulary.specs.declared.basic.Directed.{Directed}
use Rattle.vocabulary.specs.declared.basic.Directed.TheVariants.{Forward, Backward}
use Rattle.vocabulary.specs.declared.numbers.Class.{Class}
use Rattle.vocabulary.specs.declared.numbers.Link.{Link}
use Rattle.vocabulary.specs.declared.questions.Atom.{Atom}
use Rattle.vocabulary.specs.declared.questions.Atom.TheVariants.{IsIn, Joins}
use Rattle.vocabulary.specs.declared.questions.Term.{Term}
use Rattle.vocabulary.specs.declared.questions.Term.TheVariants.{Variable, Constant, Open}
use Rattle.vocabulary.specs.declared.questions.Unifier.{Unifier}
use Rattle.vocabulary.specs.declared.questions.Unifier.TheVariants.{Trivial, Binds}
use Rattle.vocabulary.specs.declared.rules.Rule.{Rule}
use Rattle.vocabulary.specs.declared.rules.Rule.TheVariants.{Within, LinkWithin}
use Rattle.std.specs.Prelude.{cond, List, ◌∷◌, ◌==◌, nat_lt, Option, Some, None}
use mathlib.Core.List.{Memᴰ}

-- the atom that puts t into a basic class
abbrev pub about : Basic → Term → Atom
about (Named c) t = IsIn c t
about (Start (Forward l)) t = Joins l t Open
about (Start (Backward l)) t = Joins l Open t

-- the atom that leads a directed link from t to u
abbrev pub joining : Directed → Term → Term → Atom
joining (Forward l) t u = Joins l t u
joining (Backward l) t u = Joins l u t

-- what one within rule makes of an atom
pub data Becomes (rules : List Rule) : Atom → Atom → Type 0 where
  narrower : {b : Basic} {c : Class} {t : Term} → Memᴰ (Within b (Named c)) rules → Becomes rules (IsIn c t) (about b t)
  starts : {b : Basic} {l : Link} {t : Term} → Memᴰ (Within b (Start (Forward l))) rules → Becomes rules (Joins l t Open) (about b t)
  ends : {b : Basic} {l : Link} {t : Term} → Memᴰ (Within b (Start (Backward l))) rules → Becomes rules (Joins l Open t) (about b t)
  links : {d : Directed} {l : Link} {t u : Term} → Memᴰ (LinkWithin d (Forward l)) rules → Becomes rules (Joins l t u) (joining d t u)
  turned : {d : Directed} {l : Link} {t u : Term} → Memᴰ (LinkWithin d (Backward l)) rules → Becomes rules (Joins l t u) (joining d u t)

-- what makes two terms equal: the open term is equal to any; of two variables the higher is bound, and a name binds any variable; nothing makes two different names equal
abbrev pub unify : Term → Term → Option Unifier
unify Open u = Some Trivial
unify (Variable m) Open = Some Trivial
unify (Variable m) (Variable n) = cond (nat_lt m n) (Some (Binds n (Variable m))) (Some (Binds m (Variable n)))
unify (Variable m) (Constant a) = Some (Binds m (Constant a))
unify (Constant a) Open = Some Trivial
unify (Constant a) (Variable n) = Some (Binds n (Constant a))
unify (Constant a) (Constant b) = cond (a.0 == b.0) (Some Trivial) None

-- the two terms can be made equal
abbrev pub Agrees : Option Unifier → Type 0
Agrees None = ⊥
Agrees (Some k) = Unit {0}

-- what becomes of a term
abbrev pub apply : Option Unifier → Term → Term
apply None t = t
apply (Some Trivial) t = t
apply (Some (Binds n u)) (Variable m) = cond (m == n) u (Variable m)
apply (Some (Binds n u)) (Constant a) = Constant a
apply (Some (Binds n u)) Open = Open

-- the open term takes the other term
abbrev pub filled : Term → Term → Term
filled Open u = u
filled (Variable m) u = Variable m
filled (Constant a) u = Constant a

-- the second terms u and u' are made equal after the first terms t and t' were
abbrev pub unify_second : Term → Term → Term → Term → Option Unifier
unify_second t t' u u' = unify (apply (unify t t') u) (apply (unify t t') u')

-- two atoms of one class or link merge: into what atom, and what becomes of every term of the question
pub data Merges : Atom → Atom → Atom → (Term → Term) → Type 0 where
  classes : {c : Class} {t t' : Term} → Agrees (unify t t') → Merges (IsIn c t) (IsIn c t') (IsIn c (filled t t')) (apply (unify t t'))
  pairs : {l : Link} {t t' u u' : Term} → Agrees (unify t t') → Agrees (unify_second t t' u u') →
      Merges (Joins l t u) (Joins l t' u') (Joins l (filled t t') (filled u u')) (λ w. apply (unify_second t t' u u') (apply (unify t t') w))

-- one atom is replaced in its place
pub data Replaced (R : Atom → Atom → Type 0) : List Atom → List Atom → Type 0 where
  here : {a b : Atom} {rest : List Atom} → R a b → Replaced R (a ∷ rest) (b ∷ rest)
  there : {a : Atom} {rest others : List Atom} → Replaced R rest others → Replaced R (a ∷ rest) (a ∷ others)

-- the list without the atom b at one place
pub data Without (b : Atom) : List Atom → List Atom → Type 0 where
  first : {rest : List Atom} → Without b (b ∷ rest) rest
  later : {a : Atom} {rest others : List Atom} → Without b rest others → Without b (a ∷ rest) (a ∷ others)

-- the earlier of two atoms becomes what they merge into, and the later goes
pub data Merged (f : Term → Term) : List Atom → List Atom → Type 0 where
  merged : {a b c : Atom} {rest others : List Atom} → Merges a b c f → Without b rest others → Merged f (a ∷ rest) (c ∷ others)
  beyond : {a : Atom} {rest others : List Atom} → Merged f rest others → Merged f (a ∷ rest) (a ∷ others)

-- one step: a rule at one atom, or two atoms merged, by which every term changes, in the head too
pub data OneStep (rules : List Rule) : Query → Query → Type 0 where
  replaces : {p : Query} {others : List Atom} → Replaced (Becomes rules) p.atoms others → OneStep rules p (record { head = p.head; atoms = others })
  merges : {p : Query} {others : List Atom} {f : Term → Term} → Merged f p.atoms others → OneStep rules p (on_query f (record { head = p.head; atoms = others }))

-- the least set that has the tidy question and, with each member, every tidy result of one step
pub data Rewriting (rules : List Rule) (q : Query) : Query → Type 0 where
  itself : Rewriting rules q (tidy q)
  onward : {p r : Query} → Rewriting rules q p → OneStep rules p r → Rewriting rules q (tidy r)
