-- The elements of a short list, and what calls compute.
use Rattle.std.specs.Prelude.{◌≡◌, ℕ, Bool, cond, List, [], ◌∷◌, ◌++◌, take}
use Rattle.std.specs.List.{list_any}
use Rattle.question.specs.declared.short.Short.{Short}

abbrev pub listed : {X : Type 0} {n : ℕ} → Short X n → List X
listed s = take s.count s.items

-- the element put behind the others, unless one of them equals it by `eq`
abbrev pub with_new : {X : Type 0} → (X → X → Bool) → List X → X → List X
with_new eq xs x = cond (list_any (λ y. eq y x) xs) xs (xs ++ x ∷ [])

-- each call that may be made answers what g says
abbrev pub Computes : {X Y : Type 0} → (X → Type 0) → (X → Y → Type 0) → (X → Y) → Type 0
Computes {X} {Y} Can Answers g = (x : X) (y : Y) → Can x → Answers x y → y ≡ g x
