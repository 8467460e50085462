-- What a bit of a sealed book's tables says of the exclusion closure, where all that is known is that some proof ties them.
use Rattle.std.proofs.Common.{Bool, true, Decides}
use mathlib.Core.Bool.{Bool-set}
use mathlib.Core.HLevel.{⊥_prop}
use mathlib.Core.Logic.{∥∥₁_elim}

-- what is decided can be had from the fact that it is not refuted
stable : {E : Type 0} → Dec E → ((E → ⊥) → ⊥) → E
stable (yes e) n = e
stable (no k) n = absurd (n k)

-- an answer that decides a test, which holds just where E does
pub told : {H E Test : Type 0} (r : Bool) → Dec E → ∥ H ∥₁ → (H → Test → E) → (H → E → Test) → Decides r Test → Decides r E
told r dec held to from d = (
  λ e. stable dec (λ n. ∥∥₁_elim held ⊥_prop (λ h. n (to h (d.0 e)))),
  λ x. ∥∥₁_elim held (Bool-set r true) (λ h. d.1 (from h x)),
)
