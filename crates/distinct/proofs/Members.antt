-- Members of a list by place.
use Rattle.std.proofs.Common.{◌≡◌, ℕ, zero, suc, ◌<◌, List, [], ◌∷◌, length, get_or, sym, refl, arith}
use mathlib.Core.List.{Memᴰ}

pub member_at : {X : Type 0} (xs : List X) (i : ℕ) (d : X) → i < length xs → Memᴰ (get_or xs i d) xs
member_at [] i d h = absurd (omega arith)
member_at (x ∷ xs) zero d h = Memᴰ.head refl
member_at (x ∷ xs) (suc i) d h = Memᴰ.tail (member_at xs i d (omega arith))

-- the place of a member
pub place_of : {X : Type 0} {x : X} {xs : List X} → Memᴰ x xs → (i : ℕ) × (i < length xs) × ((d : X) → get_or xs i d ≡ x)
place_of (Memᴰ.head p) = (0, omega arith, λ d. sym p)
place_of (Memᴰ.tail m) = let (i, h, e) = place_of m in (suc i, omega arith, e)
