-- A fact put into an ascending listing comes to stand where sorted insertion puts it.
use Rattle.std.proofs.Common.{◌≡◌, ℕ, suc, ◌<◌, Bool, true, false, cond, ◌&&◌, ◌||◌, eqb, ltb, List, [], ◌∷◌, ◌++◌, length, Some, sym, refl, ap, ◌∙◌, subst, inl, inr, arith}
use Rattle.bitstore.specs.Layout.{Ascending}
use Rattle.distinct.proofs.Sameness.{Parted}
use Rattle.facts.specs.Listings.{earlier, inserted}
use Rattle.std.proofs.lemmas.Bool.{and_left, and_parts, and_right, eqb-true, le-ltb, ltb-true, ne_eqb, or_cases, or_from}
use Rattle.std.specs.List.{slice_get}
use Rattle.vocabulary.specs.declared.facts.Fact.{Fact}
use Rattle.vocabulary.specs.declared.facts.Fact.TheVariants.{InClass, Linked}

-- one number decides, and at equal numbers the rest
lex_asym : (q p : ℕ) (x y : Bool) → (ltb q p || (eqb q p && x)) ≡ true → (x ≡ true → y ≡ false) → (ltb p q || (eqb p q && y)) ≡ false
lex_asym q p x y e f =
    elim (or_cases (ltb q p) (eqb q p && x) e) [
      | inl h ↦
          let less : q < p = ltb-true q p h in
          or_from (ltb p q) (eqb p q && y) (le-ltb p q (omega arith)) (and_left (eqb p q) y (ne_eqb p q (λ z. absurd (omega arith))))
      | inr h ↦
          let parts = and_parts (eqb q p) x h in
          let same : q ≡ p = eqb-true q p parts.0 in
          or_from (ltb p q) (eqb p q && y) (le-ltb p q (omega arith)) (and_right (eqb p q) y (f parts.1))
    ]

less_asym : (q p : ℕ) → ltb q p ≡ true → ltb p q ≡ false
less_asym q p e = let less : q < p = ltb-true q p e in le-ltb p q (omega arith)

earlier_asym : (f g : Fact) → earlier f g ≡ true → earlier g f ≡ false
earlier_asym (InClass c a) (InClass d b) e = lex_asym c.0 d.0 (ltb a.0 b.0) (ltb b.0 a.0) e (less_asym a.0 b.0)
earlier_asym (InClass c a) (Linked l x y) e = refl
earlier_asym (Linked l x y) (InClass c a) e = absurd (let z : ◌≡◌ {A = ℕ} 0 1 = cc in omega arith)
earlier_asym (Linked l a b) (Linked m x y) e =
    lex_asym l.0 m.0
    (ltb a.0 x.0 || (eqb a.0 x.0 && ltb b.0 y.0))
    (ltb x.0 a.0 || (eqb x.0 a.0 && ltb y.0 b.0)) e
    (λ h. lex_asym a.0 x.0 (ltb b.0 y.0) (ltb y.0 b.0) h (less_asym b.0 y.0))

module _ (f : Fact) where
  at_here : (front back : List Fact) → slice_get (front ++ f ∷ back) (length front) ≡ Some f
  at_here [] back = refl
  at_here (z ∷ zs) back = at_here zs back

  inserts : (front back : List Fact) → Ascending (front ++ f ∷ back) → inserted f (front ++ back) ≡ front ++ f ∷ back
  unfolding inserted
  inserts [] [] up = refl
  inserts [] (g ∷ gs) up = ap (λ (b : Bool). cond b (f ∷ (g ∷ gs)) (g ∷ inserted f gs)) (up 0 1 f g (omega arith) refl refl)
  inserts (z ∷ zs) back up =
      ap (λ (b : Bool). cond b (f ∷ (z ∷ (zs ++ back))) (z ∷ inserted f (zs ++ back)))
      (earlier_asym z f (up 0 (suc (length zs)) z f (omega arith) refl (at_here zs back)))
      ∙ ap (λ (xs : List Fact). z ∷ xs) (inserts zs back (λ i j g h l p q. up (suc i) (suc j) g h (omega arith) p q))

-- ys is xs with f, and ascends
pub inserted_is : {f : Fact} {xs ys : List Fact} → Parted f ys xs → Ascending ys → ys ≡ inserted f xs
inserted_is {f} p up = p.was ∙ sym (inserts f p.front p.back (subst Ascending p.was up)) ∙ ap (inserted f) (sym p.is)
