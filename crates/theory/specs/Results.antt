-- The theorems; each is the contract of a function of this crate.
use Rattle.std.specs.Prelude.{◌≡◌, ℕ, suc, ◌<◌, ◌≤◌, ◌⊎◌, ◌↔◌, List, [], ◌∷◌, length}
use Rattle.std.specs.List.{AllByRecursion}
use Rattle.theory.specs.Clashes.{Calm, Lawful}
use Rattle.theory.specs.Closure.{Exclusion, Excluded, classes, links}
use Rattle.theory.specs.Following.{Implied}
use Rattle.theory.specs.Questions.{Query, True, stored}
use Rattle.theory.specs.Rewritings.{OneStep, Rewriting}
use Rattle.theory.specs.Safety.{Safe}
use Rattle.theory.specs.Tidying.{times, round, rounds, firsts, place, tidy}
use Rattle.theory.specs.Worlds.{Follows, In, Keeps, Pair, Shape, SiteWorld, World, shape}
use Rattle.vocabulary.specs.Families.{Takes}
use Rattle.vocabulary.specs.Ranges.{FactFits}
use Rattle.vocabulary.specs.declared.facts.Fact.{Fact}
use Rattle.vocabulary.specs.declared.numbers.Name.{Name}
use Rattle.vocabulary.specs.declared.questions.Term.{Term}
use Rattle.vocabulary.specs.declared.rules.Family.{Family}
use Rattle.vocabulary.specs.declared.rules.Rule.{Rule}
use mathlib.Core.List.{Memᴰ}

-- no thing is in both classes, or no pair in both links
abbrev pub Disjoint : Shape → Exclusion → Type 0
Disjoint s (classes b c) = (x : s.Carrier) → In s b x → In s c x → ⊥
Disjoint s (links d e) = (x y : s.Carrier) → Pair s d x y → Pair s e x y → ⊥

-- what the exclusion closure has is disjoint in every world that keeps the rules
abbrev pub ExclusionsHold : Type 0
ExclusionsHold = (family : Family) (rules : List Rule) (e : Exclusion) → Excluded family rules e → (w : World) → AllByRecursion (Keeps (shape w)) rules → Disjoint (shape w) e

-- whether a pair is in the exclusion closure can be found out
abbrev pub ExclusionsDecided : Type 0
ExclusionsDecided = (family : Family) (rules : List Rule) (e : Exclusion) → Dec (Excluded family rules e)

-- rules of the forms of one family are lawful
abbrev pub FamiliesLawful : Type 0
FamiliesLawful = (family : Family) (rules : List Rule) → AllByRecursion (Takes family) rules → Lawful rules

-- facts in range have a world with lawful rules exactly if no two of them clash, the same one twice included
abbrev pub ClashesTell : Type 0
ClashesTell = (family : Family) (rules : List Rule) → Lawful rules → (facts : List Fact) → AllByRecursion FactFits facts → SiteWorld rules facts ↔ Calm family rules facts

-- one fact, or two of which each has a world, that with the rules have none
abbrev pub ToBlame : List Rule → List Fact → Type 0
ToBlame rules facts =
    ((f : Fact) × Memᴰ f facts × ¬ (SiteWorld rules (f ∷ [])))
    ⊎ ((f : Fact) × (g : Fact) × Memᴰ f facts × Memᴰ g facts × ¬ (SiteWorld rules (f ∷ (g ∷ []))) × SiteWorld rules (f ∷ []) × SiteWorld rules (g ∷ []))

-- of facts that have no world, one or two are to blame; lawful rules without facts always have a world
pub record Blame (rules : List Rule) : Type 0 where
  pub facts : (facts : List Fact) → AllByRecursion FactFits facts → ¬ (SiteWorld rules facts) → ToBlame rules facts
  pub rules_alone : SiteWorld rules []

abbrev pub BlameFound : Type 0
BlameFound = (rules : List Rule) → Lawful rules → Blame rules

-- a rule follows from lawful rules exactly if reaching and the exclusion closure say so
abbrev pub FollowsTells : Type 0
FollowsTells = (family : Family) (rules : List Rule) → Lawful rules → (r : Rule) → Follows rules r ↔ Implied family rules r

-- after one round more than there are atoms, tidying changes nothing any more, and wherever it changes nothing any more it is at that question
pub record Rests (q : Query) : Type 0 where
  pub rests : round (rounds (suc (length q.atoms)) q) ≡ rounds (suc (length q.atoms)) q
  pub only : (n : ℕ) → round (rounds n q) ≡ rounds n q → rounds n q ≡ rounds (suc (length q.atoms)) q

abbrev pub TidyingRests : Type 0
TidyingRests = (q : Query) → Rests q

-- the same rows are true of a question and of the tidy question, in every world and of all facts alone
pub record TruthKept (q : Query) (row : List Name) : Type 0 where
  pub worlds : (w : World) → True (shape w) q row ↔ True (shape w) (tidy q) row
  pub facts : (facts : List Fact) → True (stored facts) q row ↔ True (stored facts) (tidy q) row

abbrev pub TidyingKeepsTruth : Type 0
TidyingKeepsTruth = (q : Query) (row : List Name) → TruthKept q row

-- a variable that stands among terms gets a number below the count of their different variables
abbrev pub NumbersBelow : Type 0
NumbersBelow = (n : ℕ) (ts : List Term) → 1 ≤ times n ts → place n (firsts ts []) < length (firsts ts [])

-- in a world that keeps the rules, a row that is true of what one step makes of a question is true of the question
abbrev pub StepsKeepTruth : Type 0
StepsKeepTruth = (rules : List Rule) (w : World) → AllByRecursion (Keeps (shape w)) rules → (p r : Query) → OneStep rules p r → (row : List Name) → True (shape w) r row → True (shape w) p row

-- where lawful rules and facts in range have a world, the rows of a question that are true in all their worlds are those that are true of one of its rewritings and the facts alone
abbrev pub CertainAnswers : Type 0
CertainAnswers = (rules : List Rule) → Lawful rules → (facts : List Fact) → AllByRecursion FactFits facts → SiteWorld rules facts → (q : Query) (row : List Name) →
    ((w : SiteWorld rules facts) → True (shape w.world) q row) ↔ ((r : Query) × Rewriting rules q r × True (stored facts) r row)

-- every rewriting of a safe question is safe
abbrev pub SafeKept : Type 0
SafeKept = (rules : List Rule) (q : Query) → Safe q → (r : Query) → Rewriting rules q r → Safe r
