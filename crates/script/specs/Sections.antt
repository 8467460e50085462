-- Where a section of a script ends.
use Rattle.std.specs.Prelude.{◌≡◌, ℕ, suc, ◌<◌, List, [], length, drop, IfOk, Option, MatchOption, Result}
use Rattle.std.specs.Slice.Iter.{iter_rest}
use Rattle.script.specs.declared.session.Session.{Session}
use Rattle.script.specs.declared.stock.Stock.{Stock}
use Rattle.vocabulary.specs.declared.facts.Fact.{Fact}

-- what remains once one of the lines that remained was answered, or more of them
abbrev pub Later : {A : Type 0} → List A → List A → Type 0
Later before after = (k : ℕ) × (k < length before) × (after ≡ drop (suc k) before)

-- a section stops behind one of the lines that remained, or none is left
abbrev pub StopsIn : {A S : Type 0} → List A → List A → Option S → Type 0
StopsIn before after stop = MatchOption stop (after ≡ []) (λ _. Later before after)

-- a session answers a section, or several, up to a stop
abbrev pub GoesTo : {S E : Type 0} → Session → Session → Result (Option S) E → Type 0
GoesTo before after answer = IfOk answer (StopsIn (iter_rest before.lines) (iter_rest after.lines))

-- a store is kept for the next section, with these facts
abbrev pub Kept : List Fact → Option Stock → Type 0
Kept facts stock = MatchOption stock ⊥ (λ s. s.facts.items ≡ facts)
