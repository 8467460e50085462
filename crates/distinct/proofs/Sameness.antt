-- Elements whose `==` answers whether they are the same: what the list says of them is then about members.
use Rattle.std.proofs.Common.{◌≡◌, ℕ, suc, ◌-◌, Bool, true, false, List, [], ◌∷◌, ◌++◌, length, get_or, Decides, MatchBool, Ok, Err, Result, sym, refl, ap, ◌∙◌, subst, inl, inr, arith, length-append}
use Rattle.distinct.proofs.Members.{member_at, place_of}
use Rattle.distinct.specs.Items.{items}
use Rattle.distinct.specs.Puts.{Outcome}
use Rattle.distinct.specs.Removals.{Removal, Without}
use Rattle.distinct.specs.Repeats.{Absent, Different, NoRepeats, Present}
use Rattle.distinct.specs.declared.Distinct.{Distinct}
use Rattle.distinct.specs.declared.Full.{Full}
use Rattle.std.proofs.ByRecursion.{All-append, All-push}
use Rattle.std.proofs.lemmas.List.{get_or-append_right}
use Rattle.std.proofs.lemmas.Bool.{false≢true}
use Rattle.std.specs.List.{IsAnyAnswer, AllByRecursion}
use mathlib.Core.HLevel.{Π_prop, ⊥_prop}
use mathlib.Core.List.Memᴰ
use mathlib.Core.List.{Memᴰ}
use mathlib.Core.Logic.{∥∥₁_elim}

-- the equality answers whether two elements are the same
abbrev pub Same : {X : Type 0} → X → X → Bool → Type 0
Same x y r = Decides r (x ≡ y)

module _ {X : Type 0} (xs : List X) (x : X) where
  pub absent_not : Absent Same xs x → Memᴰ x xs → ⊥
  absent_not h m = let (i, l, e) = place_of m in false≢true ((h i x l).1 (e x))

  pub present_member : Present Same xs x → Memᴰ x xs
  present_member (i, l, e) = subst (λ (y : X). Memᴰ y xs) ((e x).0 refl) (member_at xs i x l)

  -- what `contains` answers
  pub member_told : (r : Bool) → IsAnyAnswer (λ y. Same y x) xs r → Decides r (Memᴰ x xs)
  member_told true h = (λ _. present_member h, λ _. refl)
  member_told false h = (λ e. absurd (false≢true e), λ m. absurd (absent_not (λ k d l. h k d (omega arith) l) m))

  -- what `has` answers
  pub has_told : (r : Bool) → MatchBool r (Present Same xs x) (Absent Same xs x) → Decides r (Memᴰ x xs)
  has_told true h = (λ _. present_member h, λ _. refl)
  has_told false h = (λ e. absurd (false≢true e), λ m. absurd (absent_not h m))

pub different_none : {X : Type 0} → Different {X = X} []
different_none i j x h = absurd (let l = h.1 in omega arith)

pub different_repeats : {X : Type 0} (xs : List X) → Different xs → NoRepeats Same xs
different_repeats xs h i j d l = (λ e. absurd (false≢true e), λ e. absurd (h i j d l e))

pub repeats_different : {X : Type 0} (xs : List X) → NoRepeats Same xs → Different xs
repeats_different xs h i j d l e = false≢true ((h i j d l).1 e)

-- what putting an element keeps of all items, whatever became of it
pub all_put : {X : Type 0} (E : X → X → Bool → Type 0) (P : X → Type 0) (s t : Distinct X) (x : X) (r : Result Bool Full) → Outcome E s x t r → P x → AllByRecursion P (items s) → AllByRecursion P (items t)
all_put E P s t x (Ok true) o p h = subst (AllByRecursion P) (sym o.2) (All-push P (items s) x h p)
all_put E P s t x (Ok false) o p h = subst (AllByRecursion P) (sym o.1) h
all_put E P s t x (Err full) o p h = subst (AllByRecursion P) (sym o.2) h

-- that no element stands twice is a proposition, so it comes out of a ghost field that says that some proof shows it
pub different_had : {X : Type 0} (xs : List X) → ∥ Different xs ∥₁ → Different xs
different_had xs h = ∥∥₁_elim h (Π_prop (λ i. Π_prop (λ j. Π_prop (λ d. Π_prop (λ b. Π_prop (λ e. ⊥_prop)))))) (λ p. p)

-- what taking an element out leaves: the element was there, at one place
pub record Parted {X : Type 0} (x : X) (xs ys : List X) : Type 0 where
  pub front : List X
  pub back : List X
  pub was : xs ≡ front ++ x ∷ back
  pub is : ys ≡ front ++ back

pub without_parted : {X : Type 0} {x : X} {xs ys : List X} → Without Same x xs ys → Parted x xs ys
without_parted {X} {x} w = record {
  front = w.front;
  back = w.back;
  was = w.was ∙ ap (λ (y : X). w.front ++ y ∷ w.back) (w.equal.0 refl);
  is = w.is;
}

-- an element of a list of different elements is not among the others
pub parted_lacks : {X : Type 0} (x : X) (front back : List X) → Different (front ++ x ∷ back) → Memᴰ x (front ++ back) → ⊥
parted_lacks x [] back h m = let (i, l, e) = place_of m in h 0 (suc i) x (omega arith, omega arith) (sym (e x))
parted_lacks x (y ∷ front) back h m =
    elim (Memᴰ.cases_cons m) [
      | inl e ↦
          h 0 (suc (length front)) x (omega arith, omega (arith, length-append front (x ∷ back)))
          (sym e ∙ sym (get_or-append_right front (x ∷ back) (length front) (length front) x refl (omega arith) ∙ ap (λ (k : ℕ). get_or (x ∷ back) k x) (let z : length front - length front ≡ 0 = omega arith in z)))
      | inr t ↦ parted_lacks x front back (λ i j d b. h (suc i) (suc j) d (let p = b.0 in let q = b.1 in (omega arith, omega arith))) t
    ]

all_front : {X : Type 0} (P : X → Type 0) (xs ys : List X) → AllByRecursion P (xs ++ ys) → AllByRecursion P xs
all_front P [] ys h = tt
all_front P (x ∷ xs) ys h = (h.0, all_front P xs ys h.1)

all_rest : {X : Type 0} (P : X → Type 0) (xs ys : List X) → AllByRecursion P (xs ++ ys) → AllByRecursion P ys
all_rest P [] ys h = h
all_rest P (x ∷ xs) ys h = all_rest P xs ys h.1

-- what taking an element out keeps of all items
pub all_removed : {X : Type 0} (E : X → X → Bool → Type 0) (P : X → Type 0) (s t : Distinct X) (x : X) (r : Bool) → Removal E s x t r → AllByRecursion P (items s) → AllByRecursion P (items t)
all_removed E P s t x true o h =
    let w = o.0 in
    let whole : AllByRecursion P (w.front ++ w.item ∷ w.back) = subst (AllByRecursion P) w.was h in
    subst (AllByRecursion P) (sym w.is) (All-append P w.front w.back (all_front P w.front (w.item ∷ w.back) whole) (all_rest P w.front (w.item ∷ w.back) whole).1)
all_removed E P s t x false o h = subst (λ (d : Distinct _). AllByRecursion P (items d)) (sym o.1) h
