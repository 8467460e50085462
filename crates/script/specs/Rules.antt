-- A rule and the codes that stand in it.
use Rattle.std.specs.Prelude.{◌≡◌, ◌≤◌, ◌⊎◌, Ok, Err, Result, MatchResult}
use Rattle.vocabulary.specs.declared.faults.Fault.{Fault}
use Rattle.vocabulary.specs.declared.rules.Rule.{Rule}
use Rattle.vocabulary.specs.declared.rules.Rule.TheVariants as rule
use Rattle.vocabulary.specs.Codes.{basic_code, directed_code}
use Rattle.vocabulary.specs.Faults.{number}
use Rattle.vocabulary.specs.Ranges.{RuleFits}
use Rattle.script.specs.declared.calls.Written.{Written}
use Rattle.script.specs.declared.calls.Written.TheVariants.{Within, Apart, LinkWithin, LinkApart, Single}

abbrev pub written : Rule → Written
written (rule.Within b c) = Within (basic_code b) (basic_code c)
written (rule.Apart b c) = Apart (basic_code b) (basic_code c)
written (rule.LinkWithin d e) = LinkWithin (directed_code d) (directed_code e)
written (rule.LinkApart d e) = LinkApart (directed_code d) (directed_code e)
written (rule.Single d) = Single (directed_code d)

-- a code is above its range
abbrev pub Beyond : Written → Type 0
Beyond (Within a b) = (128 ≤ a) ⊎ (128 ≤ b)
Beyond (Apart a b) = (128 ≤ a) ⊎ (128 ≤ b)
Beyond (LinkWithin a b) = (64 ≤ a) ⊎ (64 ≤ b)
Beyond (LinkApart a b) = (64 ≤ a) ⊎ (64 ≤ b)
Beyond (Single a) = 64 ≤ a

-- the rule in range that is so written, or the range fault where there is none
abbrev pub RuleOf : Written → Result Rule Fault → Type 0
RuleOf w r = MatchResult r (λ x. RuleFits x × (written x ≡ w)) (λ f. Beyond w × (number f ≡ 2))

-- a rule in range as it is written; of any other, the range fault
abbrev pub WrittenOf : Rule → Result Written Fault → Type 0
WrittenOf r (Ok w) = RuleFits r × (w ≡ written r)
WrittenOf r (Err f) = (RuleFits r → ⊥) × (number f ≡ 2)
