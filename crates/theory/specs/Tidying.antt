-- Tidying a question: repeated atoms go, variables that stand once and outside the head become open, the others are numbered anew.
use Rattle.vocabulary.specs.Equality.{atom_eq, term_eq}
use Rattle.std.specs.Prelude.{ℕ, zero, suc, Bool, false, cond, ◌&&◌, ◌||◌, List, [], ◌∷◌, ◌++◌, map, length, ◌==◌}
use Rattle.theory.specs.Questions.{Query}
use Rattle.vocabulary.specs.declared.questions.Atom.{Atom}
use Rattle.vocabulary.specs.declared.questions.Atom.TheVariants.{IsIn, Joins}
use Rattle.vocabulary.specs.declared.questions.Term.{Term}
use Rattle.vocabulary.specs.declared.questions.Term.TheVariants.{Variable, Constant, Open}

-- an equal atom is in the list
unfoldable pub stands_in : Atom → List Atom → Bool
stands_in a [] = false
stands_in a (b ∷ bs) = atom_eq a b || stands_in a bs

-- atoms without those that equal an earlier one, or one of those before
unfoldable pub once_each : List Atom → List Atom → List Atom
once_each before [] = []
once_each before (a ∷ rest) = cond (stands_in a before) (once_each before rest) (a ∷ once_each (a ∷ before) rest)

-- the terms of atoms, in order
unfoldable pub all_terms : List Atom → List Term
all_terms [] = []
all_terms (IsIn c t ∷ rest) = t ∷ all_terms rest
all_terms (Joins l t u ∷ rest) = t ∷ (u ∷ all_terms rest)

-- how often a variable stands among terms
unfoldable pub times : ℕ → List Term → ℕ
times n [] = 0
times n (t ∷ ts) = cond (term_eq (Variable n) t) (suc (times n ts)) (times n ts)

-- the variable is not in the head and stands once in the body
abbrev pub lone : List Term → List Term → ℕ → Bool
lone head body n = times n head == 0 && times n body == 1

-- a variable that passes the test becomes the open term
abbrev pub opened : (ℕ → Bool) → Term → Term
opened test (Variable n) = cond (test n) Open (Variable n)
opened test (Constant a) = Constant a
opened test Open = Open

-- each term of an atom changed
abbrev pub on_terms : (Term → Term) → Atom → Atom
on_terms f (IsIn c t) = IsIn c (f t)
on_terms f (Joins l t u) = Joins l (f t) (f u)

-- one round: equal atoms once, and then lone variables opened
unfoldable pub round : Query → Query
round q = let kept = once_each [] q.atoms in
    record { head = q.head; atoms = map (on_terms (opened (lone q.head (all_terms kept)))) kept }

-- so many rounds
unfoldable pub rounds : ℕ → Query → Query
rounds zero q = q
rounds (suc n) q = round (rounds n q)

-- the variable is in the list
unfoldable pub known : ℕ → List ℕ → Bool
known n [] = false
known n (m ∷ ms) = n == m || known n ms

-- the variables seen, and behind them those of the terms that are new, in the order in which they first stand
unfoldable pub firsts : List Term → List ℕ → List ℕ
firsts [] seen = seen
firsts (Variable n ∷ ts) seen = cond (known n seen) (firsts ts seen) (firsts ts (seen ++ (n ∷ [])))
firsts (Constant a ∷ ts) seen = firsts ts seen
firsts (Open ∷ ts) seen = firsts ts seen

-- the place of a variable in the order; the end is not met, since the order has every variable of the question
unfoldable pub place : ℕ → List ℕ → ℕ
place n [] = n
place n (m ∷ ms) = cond (n == m) 0 (suc (place n ms))

-- a variable becomes its place in the order
abbrev pub numbered : List ℕ → Term → Term
numbered order (Variable n) = Variable (place n order)
numbered order (Constant a) = Constant a
numbered order Open = Open

-- each term of a question changed
abbrev pub on_query : (Term → Term) → Query → Query
on_query f q = record { head = map f q.head; atoms = map (on_terms f) q.atoms }

-- rounds until nothing changes any more, which is so after one more than there are atoms, and then the numbers, head first
unfoldable pub tidy : Query → Query
tidy q =
    let r = rounds (suc (length q.atoms)) q in
    on_query (numbered (firsts (r.head ++ all_terms r.atoms) [])) r
