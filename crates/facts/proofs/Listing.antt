-- A list with one fact more at some place: what it has, and what it is without that fact.
use Rattle.vocabulary.specs.Equality.{fact_eq, fact_eq_same}
use Rattle.std.proofs.Common.{◌≡◌, Bool, false, cond, not, ◌⊎◌, List, [], ◌∷◌, ◌++◌, sym, refl, ap, ◌∙◌, subst, ap₂, inl, inr, append-nil, arith, length-append}
use Rattle.distinct.proofs.Sameness.{Parted, parted_lacks}
use Rattle.distinct.specs.Repeats.{Different}
use Rattle.facts.specs.Changes.{Added}
use Rattle.facts.specs.Listings.{without}
use Rattle.std.proofs.lemmas.List.Elements.{filter-append}
use Rattle.std.proofs.lemmas.Bool.{cases_Bool}
use Rattle.vocabulary.specs.declared.facts.Fact.{Fact}
use mathlib.Core.List.Memᴰ
use mathlib.Core.List.{Memᴰ}

module _ (f : Fact) where
  -- a list that lacks f is itself without it
  pub without_absent : (xs : List Fact) → (Memᴰ f xs → ⊥) → without f xs ≡ xs
  without_absent [] out = refl
  without_absent (x ∷ xs) out =
      let other : fact_eq f x ≡ false = elim (cases_Bool (fact_eq f x)) [ inl e ↦ absurd (out (Memᴰ.head ((fact_eq_same f x).0 e))) | inr e ↦ e ] in
      ap (λ (b : Bool). cond (not b) (x ∷ without f xs) (without f xs)) other ∙ ap (λ (ys : List Fact). x ∷ ys) (without_absent xs (λ m. out (Memᴰ.tail m)))

  module _ (front back : List Fact) where
    keeps : (g : Fact) → Memᴰ g (front ++ back) → Memᴰ g (front ++ f ∷ back)
    keeps g m = elim (Memᴰ.append_cases front m) [ inl h ↦ Memᴰ.append_left (f ∷ back) h | inr h ↦ Memᴰ.append_right front (Memᴰ.tail h) ]

    only : (g : Fact) → Memᴰ g (front ++ f ∷ back) → (g ≡ f) ⊎ Memᴰ g (front ++ back)
    only g m =
        elim (Memᴰ.append_cases front m) [
          | inl h ↦ inr (Memᴰ.append_left back h)
          | inr h ↦ elim (Memᴰ.cases_cons h) [ inl e ↦ inl e | inr t ↦ inr (Memᴰ.append_right front t) ]
        ]

    module _ (out : Memᴰ f (front ++ back) → ⊥) where
      pub added : Added f (front ++ back) (front ++ f ∷ back)
      added = record {
        new = out;
        has = Memᴰ.append_right front (Memᴰ.head refl);
        keeps = keeps;
        only = only;
        count = omega (arith, length-append front back, length-append front (f ∷ back));
      }

      pub without_put : without f (front ++ f ∷ back) ≡ front ++ back
      without_put =
          filter-append (λ g. not (fact_eq f g)) front (f ∷ back)
          ∙ ap₂ (λ (xs ys : List Fact). xs ++ ys) (without_absent front (λ m. out (Memᴰ.append_left back m)))
          (ap (λ (b : Bool). cond (not b) (f ∷ without f back) (without f back)) ((fact_eq_same f f).1 refl) ∙ without_absent back (λ m. out (Memᴰ.append_right front m)))

-- f behind all others
pub appended_added : (xs : List Fact) (f : Fact) → (Memᴰ f xs → ⊥) → {ys : List Fact} → ys ≡ xs ++ f ∷ [] → Added f xs ys
appended_added xs f out e =
    subst (Added f xs) (sym e)
    (subst (λ (zs : List Fact). Added f zs (xs ++ f ∷ [])) (append-nil xs) (added f xs [] (λ m. out (subst (Memᴰ f) (append-nil xs) m))))

-- f taken out of a list of different facts
module _ {f : Fact} {xs ys : List Fact} (p : Parted f xs ys) (all : Different xs) where
  lacks : Memᴰ f (p.front ++ p.back) → ⊥
  lacks = parted_lacks f p.front p.back (subst Different p.was all)

  pub parted_added : Added f ys xs
  parted_added = subst (Added f ys) (sym p.was) (subst (λ (zs : List Fact). Added f zs (p.front ++ f ∷ p.back)) (sym p.is) (added f p.front p.back lacks))

  pub parted_without : without f xs ≡ ys
  parted_without = ap (without f) p.was ∙ without_put f p.front p.back lacks ∙ sym p.is
