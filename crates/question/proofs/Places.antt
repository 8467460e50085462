-- Steps on lists of atoms by places: one place set, or one place set and a later one removed.
use Rattle.std.proofs.Common.{◌≡◌, ℕ, zero, suc, ◌<◌, List, [], ◌∷◌, length, get_or, set, sym, refl, ap, subst, arith}
use Rattle.std.specs.List.{remove}
use Rattle.theory.specs.Rewritings.{Merges, Replaced, here, there, Without, first, later, Merged, merged, beyond}
use Rattle.vocabulary.specs.declared.questions.Atom.{Atom}
use Rattle.vocabulary.specs.declared.questions.Term.{Term}

pub replaced_at : (R : Atom → Atom → Type 0) (d : Atom) (xs : List Atom) (i : ℕ) (b : Atom) → i < length xs → R (get_or xs i d) b → Replaced R xs (set xs i b)
replaced_at R d [] i b lt r = absurd (omega arith)
replaced_at R d (a ∷ rest) zero b lt r = here r
replaced_at R d (a ∷ rest) (suc i) b lt r = there (replaced_at R d rest i b (omega arith) r)

pub record ReplacedAt (R : Atom → Atom → Type 0) (d : Atom) (xs ys : List Atom) : Type 0 where
  pub place : ℕ
  pub by : Atom
  pub fits : place < length xs
  pub made : R (get_or xs place d) by
  pub is : ys ≡ set xs place by

pub at_replaced : (R : Atom → Atom → Type 0) (d : Atom) {xs ys : List Atom} → Replaced R xs ys → ReplacedAt R d xs ys
at_replaced R d (here {b = b} r) = record { place = 0; by = b; fits = omega arith; made = r; is = refl }
at_replaced R d (there {a = a} k) =
    let h = at_replaced R d k in
    record { place = suc h.place; by = h.by; fits = omega arith; made = h.made; is = ap (λ (zs : List Atom). a ∷ zs) h.is }

without_at : (d : Atom) (xs : List Atom) (j : ℕ) → j < length xs → Without (get_or xs j d) xs (remove xs j)
without_at d [] j lt = absurd (omega arith)
without_at d (a ∷ rest) zero lt = first
without_at d (a ∷ rest) (suc j) lt = later (without_at d rest j (omega arith))

pub record WithoutAt (d b : Atom) (xs ys : List Atom) : Type 0 where
  pub place : ℕ
  pub fits : place < length xs
  pub there : get_or xs place d ≡ b
  pub is : ys ≡ remove xs place

at_without : (d : Atom) {b : Atom} {xs ys : List Atom} → Without b xs ys → WithoutAt d b xs ys
at_without d first = record { place = 0; fits = omega arith; there = refl; is = refl }
at_without d (later {a = a} k) =
    let h = at_without d k in
    record { place = suc h.place; fits = omega arith; there = h.there; is = ap (λ (zs : List Atom). a ∷ zs) h.is }

pub merged_at : (d : Atom) {f : Term → Term} (xs : List Atom) (i j : ℕ) (c : Atom) → i < j → j < length xs → Merges (get_or xs i d) (get_or xs j d) c f → Merged f xs (remove (set xs i c) j)
merged_at d [] i j c lt fits m = absurd (omega arith)
merged_at d (a ∷ rest) i zero c lt fits m = absurd (omega arith)
merged_at d (a ∷ rest) zero (suc j) c lt fits m = merged m (without_at d rest j (omega arith))
merged_at d (a ∷ rest) (suc i) (suc j) c lt fits m = beyond (merged_at d rest i j c (omega arith) (omega arith) m)

pub record MergedAt (d : Atom) (f : Term → Term) (xs ys : List Atom) : Type 0 where
  pub earlier : ℕ
  pub later : ℕ
  pub by : Atom
  pub order : earlier < later
  pub fits : later < length xs
  pub made : Merges (get_or xs earlier d) (get_or xs later d) by f
  pub is : ys ≡ remove (set xs earlier by) later

pub at_merged : (d : Atom) {f : Term → Term} {xs ys : List Atom} → Merged f xs ys → MergedAt d f xs ys
at_merged d {f = f} (merged {a = a} {c = c} m k) =
    let h = at_without d k in
    record {
      earlier = 0;
      later = suc h.place;
      by = c;
      order = omega arith;
      fits = omega arith;
      made = subst (λ (b : Atom). Merges a b c f) (sym h.there) m;
      is = ap (λ (zs : List Atom). c ∷ zs) h.is;
    }
at_merged d (beyond {a = a} k) =
    let h = at_merged d k in
    record {
      earlier = suc h.earlier;
      later = suc h.later;
      by = h.by;
      order = omega arith;
      fits = omega arith;
      made = h.made;
      is = ap (λ (zs : List Atom). a ∷ zs) h.is;
    }
