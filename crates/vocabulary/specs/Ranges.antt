-- Which numbers are in range.
use Rattle.std.specs.Prelude.{◌<◌}
use Rattle.vocabulary.specs.declared.basic.Basic.{Basic}
use Rattle.vocabulary.specs.declared.basic.Basic.TheVariants.{Named, Start}
use Rattle.vocabulary.specs.declared.basic.Directed.{Directed}
use Rattle.vocabulary.specs.declared.basic.Directed.TheVariants.{Forward, Backward}
use Rattle.vocabulary.specs.declared.facts.Fact.{Fact}
use Rattle.vocabulary.specs.declared.facts.Fact.TheVariants.{InClass, Linked}
use Rattle.vocabulary.specs.declared.numbers.Class.{Class}
use Rattle.vocabulary.specs.declared.numbers.Link.{Link}
use Rattle.vocabulary.specs.declared.numbers.Name.{Name}
use Rattle.vocabulary.specs.declared.rules.Rule.{Rule}
use Rattle.vocabulary.specs.declared.rules.Rule.TheVariants.{Within, Apart, LinkWithin, LinkApart, Single}

-- there are 64 classes, 32 links and 1,024 names, each kind numbered from 0
abbrev pub ClassFits : Class → Type 0
ClassFits c = c.0 < 64

abbrev pub LinkFits : Link → Type 0
LinkFits l = l.0 < 32

abbrev pub NameFits : Name → Type 0
NameFits a = a.0 < 1024

-- every number that stands in it is in range
abbrev pub DirectedFits : Directed → Type 0
DirectedFits (Forward l) = LinkFits l
DirectedFits (Backward l) = LinkFits l

abbrev pub BasicFits : Basic → Type 0
BasicFits (Named c) = ClassFits c
BasicFits (Start d) = DirectedFits d

abbrev pub RuleFits : Rule → Type 0
RuleFits (Within b c) = BasicFits b × BasicFits c
RuleFits (Apart b c) = BasicFits b × BasicFits c
RuleFits (LinkWithin d e) = DirectedFits d × DirectedFits e
RuleFits (LinkApart d e) = DirectedFits d × DirectedFits e
RuleFits (Single d) = DirectedFits d

abbrev pub FactFits : Fact → Type 0
FactFits (InClass c a) = ClassFits c × NameFits a
FactFits (Linked l a b) = LinkFits l × NameFits a × NameFits b
