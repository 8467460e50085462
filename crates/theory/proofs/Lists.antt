-- Members of lists, and lists matched place by place.
use Rattle.std.specs.List.{flat_map, AllByRecursion}
use Rattle.theory.specs.Lists.{Matched}
use Rattle.std.proofs.Common.{◌≡◌, ◌⊎◌, List, [], ◌∷◌, map, sym, refl, subst, inl, inr, ⊎_elim}
use mathlib.Core.List.Memᴰ
use mathlib.Core.List.{Memᴰ}

-- what holds of all members holds of each, and the other way round
pub each : {A : Type 0} (P : A → Type 0) {x : A} {xs : List A} → AllByRecursion P xs → Memᴰ x xs → P x
each P h (Memᴰ.head p) = subst P (sym p) h.0
each P h (Memᴰ.tail m) = each P h.1 m

pub every : {A : Type 0} (P : A → Type 0) (xs : List A) → ((x : A) → Memᴰ x xs → P x) → AllByRecursion P xs
every P [] f = tt
every P (x ∷ xs) f = (f x (Memᴰ.head refl), every P xs (λ y m. f y (Memᴰ.tail m)))

pub all_unmap : {A B : Type 0} (P : A → Type 0) (Q : B → Type 0) (g : A → B) → ((x : A) → Q (g x) → P x) → (xs : List A) → AllByRecursion Q (map g xs) → AllByRecursion P xs
all_unmap P Q g f [] h = tt
all_unmap P Q g f (x ∷ xs) h = (f x h.0, all_unmap P Q g f xs h.1)

-- lists matched place by place stay so when one of them is changed, and were so before
pub matched_map : {A B C : Type 0} (R : A → C → Type 0) (S : B → C → Type 0) (g : A → B) → ((x : A) (z : C) → R x z → S (g x) z) →
    (xs : List A) (zs : List C) → Matched R xs zs → Matched S (map g xs) zs
matched_map R S g f [] [] h = tt
matched_map R S g f [] (z ∷ zs) h = h
matched_map R S g f (x ∷ xs) [] h = h
matched_map R S g f (x ∷ xs) (z ∷ zs) h = (f x z h.0, matched_map R S g f xs zs h.1)

pub matched_unmap : {A B C : Type 0} (R : A → C → Type 0) (S : B → C → Type 0) (g : A → B) → ((x : A) (z : C) → S (g x) z → R x z) →
    (xs : List A) (zs : List C) → Matched S (map g xs) zs → Matched R xs zs
matched_unmap R S g f [] [] h = tt
matched_unmap R S g f [] (z ∷ zs) h = h
matched_unmap R S g f (x ∷ xs) [] h = h
matched_unmap R S g f (x ∷ xs) (z ∷ zs) h = (f x z h.0, matched_unmap R S g f xs zs h.1)

-- some member has the property
abbrev pub Some : {A : Type 0} → (A → Type 0) → List A → Type 0
Some {A} P xs = (x : A) × Memᴰ x xs × P x

pub joined_in : {A B : Type 0} (f : A → List B) {y : B} {x : A} {xs : List A} → Memᴰ x xs → Memᴰ y (f x) → Memᴰ y (flat_map f xs)
joined_in f {y} (Memᴰ.head {xs = xs} p) m = Memᴰ.append_left (flat_map f xs) (subst (λ x. Memᴰ y (f x)) p m)
joined_in f (Memᴰ.tail {x = x} k) m = Memᴰ.append_right (f x) (joined_in f k m)

pub joined_out : {A B : Type 0} (f : A → List B) {y : B} (xs : List A) → Memᴰ y (flat_map f xs) → Some (λ x. Memᴰ y (f x)) xs
joined_out f [] m = absurd (Memᴰ.not-nil m)
joined_out f (x ∷ xs) m = ⊎_elim (λ k. (x, Memᴰ.head refl, k)) (λ k. let t = joined_out f xs k in (t.0, Memᴰ.tail t.1, t.2)) (Memᴰ.append_cases (f x) m)

pub one_of_two : {A : Type 0} {x a b : A} → Memᴰ x (a ∷ (b ∷ [])) → (x ≡ a) ⊎ (x ≡ b)
one_of_two (Memᴰ.head p) = inl p
one_of_two (Memᴰ.tail m) = inr (Memᴰ.eq_of_singleton m)
