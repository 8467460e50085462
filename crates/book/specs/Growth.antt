-- How the two tables grow while a book is sealed, step by step.
use Rattle.std.specs.Prelude.{◌≡◌, ℕ, ◌+◌, ◌<◌, Bool, List, length, slice_index_or}
use Rattle.bits.specs.Words.{unset}
use Rattle.book.specs.Steps.{Adds, AllAllowed}
use Rattle.book.specs.Tables.{PairOn}
use Rattle.book.specs.declared.closure.Closure.{Closure}
use Rattle.theory.specs.Closure.{Exclusion, Excluded, classes, links}
use Rattle.vocabulary.specs.Codes.{basic_code, directed_code, turn}
use Rattle.vocabulary.specs.Families.{LinksToo}
use Rattle.vocabulary.specs.Ranges.{BasicFits, DirectedFits, RuleFits}
use Rattle.vocabulary.specs.declared.basic.Basic.{Basic}
use Rattle.vocabulary.specs.declared.basic.Basic.TheVariants.{Start}
use Rattle.vocabulary.specs.declared.basic.Directed.{Directed}
use Rattle.vocabulary.specs.declared.basic.Directed.TheVariants.{Forward, Backward}
use Rattle.vocabulary.specs.declared.rules.Family.{Family}
use Rattle.vocabulary.specs.declared.rules.Rule.{Rule}
use Rattle.vocabulary.specs.declared.rules.Rule.TheVariants.{Within, Apart, LinkWithin, LinkApart, Single}

-- the words of the table of basic classes, and of that of directed links
abbrev pub Tables : Type 0
Tables = List ℕ × List ℕ

abbrev pub tables : Closure → Tables
tables c = (c.classes.relation.strided.bits.words.now, c.links.relation.strided.bits.words.now)

-- how many bits are not set
abbrev pub left : Tables → ℕ
left t = unset t.0 + unset t.1

-- the tables hold the pair
abbrev pub ClassOn : Tables → Basic → Basic → Type 0
ClassOn t = PairOn BasicFits basic_code 2 t.0

abbrev pub LinkOn : Tables → Directed → Directed → Type 0
LinkOn t = PairOn DirectedFits directed_code 1 t.1

-- what the tables show
abbrev pub Shown : Tables → Exclusion → Type 0
Shown t (classes b c) = ClassOn t b c
Shown t (links d e) = LinkOn t d e

-- what rules of a family exclude
abbrev pub InClosure : Family × List Rule → Exclusion → Type 0
InClosure x = Excluded x.0 x.1

-- all that the tables show is in the closure
abbrev pub Sound : Family → List Rule → Tables → Type 0
Sound family rules = AllAllowed Shown (InClosure (family, rules))

-- a step of the tables that is sound for every family and list of rules of which G holds
abbrev pub Went : (Family → List Rule → Type 0) → (Tables → Type 0) → Bool → Tables → Tables → Type 0
Went G = Adds Shown InClosure left (λ x. G x.0 x.1)

-- a step that is sound for all rules
abbrev pub Always : Family → List Rule → Type 0
Always family rules = Unit {0}

-- what the rules must give for `from` to be kept apart from all that `to` is kept apart from
abbrev pub ClassStep : Basic → Basic → Family → List Rule → Type 0
ClassStep from to family rules = (c : Basic) → Excluded family rules (classes to c) → Excluded family rules (classes from c)

abbrev pub LinkStep : Directed → Directed → Family → List Rule → Type 0
LinkStep from to family rules = (e : Directed) → Excluded family rules (links to e) → Excluded family rules (links from e)

-- the tables keep `from` apart from all that they keep `to` apart from
abbrev pub ClassesPass : Tables → Basic → Basic → Type 0
ClassesPass t from to = (c : Basic) → ClassOn t to c → ClassOn t from c

abbrev pub LinksPass : Tables → Directed → Directed → Type 0
LinksPass t from to = (e : Directed) → LinkOn t to e → LinkOn t from e

-- the rule has nothing to add
abbrev pub Done : Rule → Tables → Type 0
Done (Within b c) t = ClassesPass t b c
Done (Apart b c) t = ClassOn t b c
Done (LinkWithin d e) t =
    ClassesPass t (Start d) (Start e) × ClassesPass t (Start (turn d)) (Start (turn e)) × LinksPass t d e × LinksPass t (turn d) (turn e)
Done (LinkApart d e) t = LinkOn t d e × LinkOn t (turn d) (turn e)
Done (Single d) t = Unit {0}

-- none of the first n rules has anything to add
abbrev pub DoneFirst : List Rule → ℕ → Tables → Type 0
DoneFirst rules n t = (k : ℕ) (r : Rule) → k < n → Done (slice_index_or rules k r) t

-- that the link is empty at its end, or as a link, is known at its start; and at its start, as a link
abbrev pub EndKnown : Directed → Tables → Type 0
EndKnown d t = ClassOn t (Start (turn d)) (Start (turn d)) → ClassOn t (Start d) (Start d)

abbrev pub LinkKnown : Directed → Tables → Type 0
LinkKnown d t = LinkOn t d d → ClassOn t (Start d) (Start d)

abbrev pub StartKnown : Family → Directed → Tables → Type 0
StartKnown family d t = LinksToo family → ClassOn t (Start d) (Start d) → LinkOn t d d

abbrev pub EmptyKnown : Family → Directed → Tables → Type 0
EmptyKnown family d t = EndKnown d t × LinkKnown d t × StartKnown family d t

-- of each link with a number below n, in both directions
abbrev pub EmptyKnownBelow : Family → ℕ → Tables → Type 0
EmptyKnownBelow family n t = (k : ℕ) → k < n → EmptyKnown family (Forward (record { 0 = k })) t × EmptyKnown family (Backward (record { 0 = k })) t

-- every rule fits
abbrev pub AllFit : List Rule → Type 0
AllFit rules = (k : ℕ) (r : Rule) → k < length rules → RuleFits (slice_index_or rules k r)

-- a round adds what these rules give in this family, and where it adds nothing, nothing is left to add
abbrev pub Of : Family → List Rule → Family → List Rule → Type 0
Of family rules f all = (f ≡ family) × (all ≡ rules)

abbrev pub AllDone : Family → List Rule → Tables → Type 0
AllDone family rules t = DoneFirst rules (length rules) t × EmptyKnownBelow family 32 t
