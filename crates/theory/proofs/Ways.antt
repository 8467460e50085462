use Rattle.std.proofs.Common.{◌≡◌, ◌⊎◌, List, [], ◌∷◌, sym, refl, ap, ◌∙◌, subst, inl, inr, ⊎_elim}
use mathlib.Core.List.Memᴰ
use mathlib.Core.List.{Memᴰ}
use native.Mathlib.Decide.{map_dec}
use Rattle.theory.specs.Reaching.{Reaches, here, then}
use Rattle.theory.proofs.Lists.{Some}
use Rattle.theory.proofs.Decisions.{either, both, some}

-- Reachability along a finite list of edges is decided by recursion on the list: a way over the edges e and es either
-- avoids e, or comes to e's beginning and goes on from e's end without it.
pub record Edge (A : Type 0) : Type 0 where
  pub from : A
  pub to : A

pub data Way {A : Type 0} (es : List (Edge A)) : A → A → Type 0 where
  stay : {a b : A} → a ≡ b → Way es a b
  go : {a b : A} (e : Edge A) → Memᴰ e es → a ≡ e.from → Way es e.to b → Way es a b

pub join : {A : Type 0} {es : List (Edge A)} {a b c : A} → Way es a b → Way es b c → Way es a c
join {es = es} {c = c} (stay p) w = subst (λ x. Way es x c) (sym p) w
join (go e m p v) w = go e m p (join v w)

pub wider : {A : Type 0} {e : Edge A} {es : List (Edge A)} {a b : A} → Way es a b → Way (e ∷ es) a b
wider (stay p) = stay p
wider (go f m p v) = go f (Memᴰ.tail m) p (wider v)

abbrev pub Cut : {A : Type 0} → Edge A → List (Edge A) → A → A → Type 0
Cut e es a b = Way es a b ⊎ (Way es a e.from × Way es e.to b)

pub cut : {A : Type 0} {e : Edge A} {es : List (Edge A)} {a b : A} → Way (e ∷ es) a b → Cut e es a b
cut (stay p) = inl (stay p)
cut {e = e} {es = es} (go {a = a} {b = b} f m p w) = first m (cut w)
  where
    rest : (f ≡ e) → Cut e es f.to b → Cut e es a b
    rest q (inl v) = inr (stay (p ∙ ap (λ x. x.from) q), subst (λ x. Way es x.to b) q v)
    rest q (inr v) = inr (stay (p ∙ ap (λ x. x.from) q), v.1)

    other : Memᴰ f es → Cut e es f.to b → Cut e es a b
    other k (inl v) = inl (go f k p v)
    other k (inr v) = inr (go f k p v.0, v.1)

    first : Memᴰ f (e ∷ es) → Cut e es f.to b → Cut e es a b
    first (Memᴰ.head q) c = rest q c
    first (Memᴰ.tail k) c = other k c

pub decided : {A : Type 0} → ((x y : A) → Dec (x ≡ y)) → (es : List (Edge A)) (a b : A) → Dec (Way es a b)
decided same [] a b = elim (same a b) [ yes p ↦ yes (stay p) | no n ↦ no (λ w. n (only w)) ]
  where
    only : Way [] a b → a ≡ b
    only (stay p) = p
    only (go e m p w) = absurd (Memᴰ.not-nil m)
decided same (e ∷ es) a b = pick (decided same es a b) (decided same es a e.from) (decided same es e.to b)
  where
    pick : Dec (Way es a b) → Dec (Way es a e.from) → Dec (Way es e.to b) → Dec (Way (e ∷ es) a b)
    pick (yes w) p q = yes (wider w)
    pick (no n) (yes v) (yes w) = yes (join (wider v) (go e (Memᴰ.head refl) refl (wider w)))
    pick (no n) (yes v) (no k) = no (λ w. ⊎_elim n (λ t. k t.1) (cut w))
    pick (no n) (no k) q = no (λ w. ⊎_elim n (λ t. k t.0) (cut w))

-- reachability along a relation that a finite list of edges gives
abbrev pub edge : {A : Type 0} → A → A → Edge A
edge a b = record { from = a; to = b }

pub reach_way : {A : Type 0} (R : A → A → Type 0) (es : List (Edge A)) → ((a b : A) → R a b → Memᴰ (edge a b) es)
    → {a b : A} → Reaches R a b → Way es a b
reach_way R es f here = stay refl
reach_way R es f (then {a = a} {b = b} s r) = go (edge a b) (f a b s) refl (reach_way R es f r)

pub way_reach : {A : Type 0} (R : A → A → Type 0) (es : List (Edge A)) → ((e : Edge A) → Memᴰ e es → R e.from e.to)
    → {a b : A} → Way es a b → Reaches R a b
way_reach R es f (stay {a = a} p) = subst (λ x. Reaches R a x) p here
way_reach R es f (go {b = b} e m p w) = subst (λ x. Reaches R x b) (sym p) (then (f e m) (way_reach R es f w))

-- whether a way leads to something with the property P: a way ends where it begins or where an edge ends
way_end : {A : Type 0} {es : List (Edge A)} {a b : A} → Way es a b → (a ≡ b) ⊎ Some (λ e. e.to ≡ b) es
way_end (stay p) = inl p
way_end (go e m p w) = ⊎_elim (λ q. inr (e, m, q)) (λ t. inr t) (way_end w)

pub way_some : {A : Type 0} → ((x y : A) → Dec (x ≡ y)) → (es : List (Edge A)) (a : A) (P : A → Type 0) → ((x : A) → Dec (P x)) → Dec ((b : A) × Way es a b × P b)
way_some {A} same es a P f = map_dec there from (either (f a) (some Ends ends es))
  where
    Ends : Edge A → Type 0
    Ends e = Way es a e.to × P e.to

    ends : (e : Edge A) → Dec (Ends e)
    ends e = both (decided same es a e.to) (f e.to)

    there : P a ⊎ Some Ends es → (b : A) × Way es a b × P b
    there (inl p) = (a, stay refl, p)
    there (inr t) = (t.0.to, t.2.0, t.2.1)

    from : (b : A) × Way es a b × P b → P a ⊎ Some Ends es
    from t = ⊎_elim
        (λ q. inl (subst P (sym q) t.2))
        (λ e. inr (e.0, e.1, (subst (Way es a) (sym e.2) t.1, subst P (sym e.2) t.2)))
        (way_end t.1)
