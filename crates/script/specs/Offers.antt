-- The calls that a program takes.
use Rattle.std.specs.Prelude.{◌≡◌, IfOk, IfSome, Option, Result}
use Rattle.script.specs.declared.script.Stop.{Stop}
use Rattle.script.specs.declared.script.Stop.TheVariants as stop
use Rattle.script.specs.declared.session.Session.{Session}
use Rattle.script.specs.declared.calls.Call.{Call}
use Rattle.script.specs.declared.calls.Call.TheVariants.{Family, Rule, Seal, Follows, Store, Enter, Withdraw, List}
use Rattle.script.specs.declared.offer.Offer.{Offer}
use Rattle.script.specs.declared.offer.Offer.TheVariants as offer

-- a call is one on rules
abbrev pub OnRules : Call → Type 0
OnRules (Family code) = Unit {0}
OnRules (Rule rule) = Unit {0}
OnRules Seal = Unit {0}
OnRules (Follows rule) = Unit {0}
OnRules (Store making) = ⊥
OnRules (Enter fact) = ⊥
OnRules (Withdraw fact) = ⊥
OnRules List = ⊥

-- a call is among those on offer
abbrev pub Offered : Offer → Call → Type 0
Offered offer.Rules call = OnRules call
Offered offer.Facts call = Unit {0}

-- a section ends at a new store only where the calls on facts are on offer
abbrev pub StopOffered : Offer → Stop → Type 0
StopOffered o (stop.Family opening) = Unit {0}
StopOffered o (stop.Seal line) = Unit {0}
StopOffered o (stop.Store stock) = o ≡ offer.Facts

-- a session keeps its offer, and makes no store but by it
abbrev pub KeepsOffer : {E : Type 0} → Session → Session → Result (Option Stop) E → Type 0
KeepsOffer before after answer = (after.report.offer ≡ before.report.offer) × IfOk answer (λ stop. IfSome stop (StopOffered before.report.offer))
