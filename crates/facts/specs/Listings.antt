-- The lists that a store of facts has after an entry and after a withdrawal, where their order is settled.
use Rattle.vocabulary.specs.Equality.{fact_eq}
use Rattle.std.specs.Prelude.{◌≡◌, Bool, true, false, cond, not, ◌&&◌, ◌||◌, List, [], ◌∷◌, ◌++◌, Ok, Err, filter, Result, ◌==◌, nat_lt}
use Rattle.vocabulary.specs.declared.effects.Effect.{Effect}
use Rattle.vocabulary.specs.declared.effects.Effect.TheVariants.{Changed, Unchanged}
use Rattle.vocabulary.specs.declared.facts.Fact.{Fact}
use Rattle.vocabulary.specs.declared.facts.Fact.TheVariants.{InClass, Linked}
use Rattle.vocabulary.specs.declared.faults.Fault.{Fault}

-- the list without f; all else keeps its order
abbrev pub without : Fact → List Fact → List Fact
without f xs = filter (λ g. not (fact_eq f g)) xs

-- f behind all others
abbrev pub appended : Fact → List Fact → List Fact
appended f xs = xs ++ f ∷ []

-- class facts come before link facts; each kind goes by its numbers, the first of them that differ
abbrev pub earlier : Fact → Fact → Bool
earlier (InClass c a) (InClass d b) = nat_lt c.0 d.0 || c.0 == d.0 && nat_lt a.0 b.0
earlier (InClass c a) (Linked l x y) = true
earlier (Linked l x y) (InClass c a) = false
earlier (Linked l a b) (Linked m x y) = nat_lt l.0 m.0 || l.0 == m.0 && (nat_lt a.0 x.0 || a.0 == x.0 && nat_lt b.0 y.0)

-- f before the first fact that it is earlier than
unfoldable pub inserted : Fact → List Fact → List Fact
inserted f [] = f ∷ []
inserted f (g ∷ gs) = cond (earlier f g) (f ∷ (g ∷ gs)) (g ∷ inserted f gs)

-- the list after a call that gave this answer: only one that changed something changes it
abbrev pub changed : (List Fact → List Fact) → Result Effect Fault → List Fact → List Fact
changed change (Ok Changed) xs = change xs
changed change (Ok Unchanged) xs = xs
changed change (Err e) xs = xs

-- what is as it was unless the answer says that something changed
abbrev pub Untouched : {X : Type 0} → Result Effect Fault → X → X → Type 0
Untouched (Ok Changed) x y = Unit {0}
Untouched (Ok Unchanged) x y = y ≡ x
Untouched (Err e) x y = y ≡ x
