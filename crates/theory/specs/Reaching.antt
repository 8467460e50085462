-- What the within rules of a book lead to.
use Rattle.vocabulary.specs.Codes.{turn}
use Rattle.vocabulary.specs.declared.basic.Basic.{Basic}
use Rattle.vocabulary.specs.declared.basic.Basic.TheVariants.{Start}
use Rattle.vocabulary.specs.declared.basic.Directed.{Directed}
use Rattle.vocabulary.specs.declared.rules.Rule.{Rule}
use Rattle.vocabulary.specs.declared.rules.Rule.TheVariants.{LinkWithin, Within}
use Rattle.std.specs.Prelude.{List}
use mathlib.Core.List.{Memᴰ}

-- one within rule on links, which holds of the links turned round too
pub data LinkStep (rules : List Rule) : Directed → Directed → Type 0 where
  along : {d e : Directed} → Memᴰ (LinkWithin d e) rules → LinkStep rules d e
  back : {d e : Directed} → Memᴰ (LinkWithin (turn d) (turn e)) rules → LinkStep rules d e

-- one within rule on basic classes, or one on links, which holds of where they start
pub data Step (rules : List Rule) : Basic → Basic → Type 0 where
  by_rule : {b c : Basic} → Memᴰ (Within b c) rules → Step rules b c
  by_link : {d e : Directed} → LinkStep rules d e → Step rules (Start d) (Start e)

-- any number of steps, or none
pub data Reaches {A : Type 0} (R : A → A → Type 0) : A → A → Type 0 where
  here : {a : A} → Reaches R a a
  then : {a b c : A} → R a b → Reaches R b c → Reaches R a c
