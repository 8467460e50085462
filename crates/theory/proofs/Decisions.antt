-- What is made of decided parts is decided.
use Rattle.std.proofs.Common.{Bool, true, false, T, ◌⊎◌, List, [], ◌∷◌, refl, subst, inl, inr, ⊎_elim}
use mathlib.Core.List.Memᴰ
use mathlib.Core.List.{Memᴰ}
use Rattle.theory.proofs.Lists.{Some}

-- what is made of decided parts is decided
pub either : {A B : Type 0} → Dec A → Dec B → Dec (A ⊎ B)
either (yes a) q = yes (inl a)
either (no n) (yes b) = yes (inr b)
either (no n) (no k) = no (λ s. ⊎_elim n k s)

pub both : {A B : Type 0} → Dec A → Dec B → Dec (A × B)
both (yes a) (yes b) = yes (a, b)
both (yes a) (no k) = no (λ t. k t.1)
both (no n) q = no (λ t. n t.0)

pub never : {A : Type 0} → Dec A → Dec (¬ A)
never (yes a) = no (λ n. n a)
never (no n) = yes n

pub some : {A : Type 0} (P : A → Type 0) → ((x : A) → Dec (P x)) → (xs : List A) → Dec (Some P xs)
some P f [] = no (λ t. Memᴰ.not-nil t.1)
some P f (x ∷ xs) = pick (f x) (some P f xs)
  where
    first : ¬ (P x) → ¬ (Some P xs) → (y : _) → Memᴰ y (x ∷ xs) → P y → ⊥
    first n k y (Memᴰ.head q) p = n (subst P q p)
    first n k y (Memᴰ.tail m) p = k (y, m, p)

    pick : Dec (P x) → Dec (Some P xs) → Dec (Some P (x ∷ xs))
    pick (yes p) q = yes (x, Memᴰ.head refl, p)
    pick (no n) (yes t) = yes (t.0, Memᴰ.tail t.1, t.2)
    pick (no n) (no k) = no (λ t. first n k t.0 t.1 t.2)

-- a decision is a test
pub truth : {A : Type 0} → Dec A → Bool
truth (yes a) = true
truth (no n) = false

pub passed : {A : Type 0} (d : Dec A) → T (truth d) → A
unfolding truth
passed (yes a) t = a
passed (no n) t = absurd t

pub pass : {A : Type 0} (d : Dec A) → A → T (truth d)
unfolding truth
pass (yes a) x = tt
pass (no n) x = n x
