-- A step of what only grows until nothing is left to add: the tables of a closure, or marks.
use Rattle.std.specs.Prelude.{◌≡◌, ℕ, ◌<◌, ◌≤◌, Bool, true, false}

-- all that the state shows is allowed
abbrev pub AllAllowed : {S P : Type 0} → (S → P → Type 0) → (P → Type 0) → S → Type 0
AllAllowed {S} {P} Shown Allowed s = (p : P) → Shown s p → Allowed p

-- from s to t nothing is lost, and for every x of which G holds, all is allowed after if it was before
pub record Extends {S P X : Type 0} (Shown : S → P → Type 0) (Allowed : X → P → Type 0) (G : X → Type 0) (s t : S) : Type 0 where
  pub more : (p : P) → Shown s p → Shown t p
  pub sound : (x : X) → G x → AllAllowed Shown (Allowed x) s → AllAllowed Shown (Allowed x) t

-- A step from s to t; r says whether anything was added, which leaves less to add.
-- Where nothing was, the state is as it was, and C holds of it.
pub record Adds {S P X : Type 0} (Shown : S → P → Type 0) (Allowed : X → P → Type 0) (left : S → ℕ) (G : X → Type 0) (C : S → Type 0) (r : Bool) (s t : S) : Type 0 where
  pub extends : Extends Shown Allowed G s t
  pub at_most : left t ≤ left s
  pub added : r ≡ true → left t < left s
  pub idle : r ≡ false → (t ≡ s) × C t
