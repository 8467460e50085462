-- The things of the canonical world: names, and partners that the rules demand of a thing. All that is said of them is decided.
use Rattle.std.proofs.Common.{◌≡◌, ℕ, ◌⊎◌, List, sym, refl, ap, subst, subst₂, inl, inr, ⊎_elim, arith}
use mathlib.Core.List.{Memᴰ}
use native.Mathlib.Decide.{map_dec}
use Rattle.vocabulary.specs.declared.numbers.Class.{Class}
use Rattle.vocabulary.specs.declared.numbers.Name.{Name}
use Rattle.vocabulary.specs.declared.basic.Directed.{Directed}
use Rattle.vocabulary.specs.declared.basic.Directed.TheVariants.{Forward, Backward}
use Rattle.vocabulary.specs.declared.basic.Basic.{Basic}
use Rattle.vocabulary.specs.declared.basic.Basic.TheVariants.{Named, Start}
use Rattle.vocabulary.specs.declared.rules.Rule.{Rule}
use Rattle.vocabulary.specs.declared.rules.Rule.TheVariants.{Single}
use Rattle.vocabulary.specs.declared.facts.Fact.{Fact}
use Rattle.vocabulary.specs.declared.facts.Fact.TheVariants.{InClass, Linked}
use Rattle.vocabulary.specs.Codes.{turn}
use Rattle.theory.specs.Reaching.{LinkStep, Step, Reaches}
use Rattle.theory.specs.Clashes.{linked, At}
use Rattle.theory.proofs.Lists.{Some}
use Rattle.theory.proofs.Decisions.{some, either, both, never}
use Rattle.theory.proofs.Reached.{same_name, same_directed, single, links_reached, reached}
use Rattle.theory.proofs.Numbering.{Thing, name, child, same_thing}

-- a directed link's fact can be read in two ways
abbrev pub Same : Directed → Name → Name → Directed → Name → Name → Type 0
Same d a b e x y = (d ≡ e) × (a ≡ x) × (b ≡ y)

pub linked_same : (d e : Directed) (a b x y : Name) → linked d a b ≡ linked e x y → Same d a b e x y ⊎ Same d a b (turn e) y x
linked_same (Forward l) (Forward k) a b x y p = inl (cc, cc, cc)
linked_same (Forward l) (Backward k) a b x y p = inr (cc, cc, cc)
linked_same (Backward l) (Forward k) a b x y p = inr (cc, cc, cc)
linked_same (Backward l) (Backward k) a b x y p = inl (cc, cc, cc)

pub linked_turn : (d : Directed) (a b : Name) → linked (turn d) b a ≡ linked d a b
linked_turn (Forward l) a b = refl
linked_turn (Backward l) a b = refl

pub not_linked : (d : Directed) (a b x : Name) (c : Class) → InClass c x ≡ linked d a b → ⊥
not_linked (Forward l) a b x c p = let z : ◌≡◌ {A = ℕ} 0 1 = cc in omega arith
not_linked (Backward l) a b x c p = let z : ◌≡◌ {A = ℕ} 0 1 = cc in omega arith

module _ (rules : List Rule) (facts : List Fact) where
  -- some fact puts the name in the basic class
  abbrev pub Given : Basic → Name → Type 0
  Given b a = Some (λ f. At f b a) facts

  -- some fact puts the name in the basic class or in one below
  abbrev pub Below : Basic → Name → Fact → Type 0
  Below b a f = (c : Basic) × At f c a × Reaches (Step rules) c b

  -- the basic classes of a thing
  abbrev pub Belongs : Thing → Basic → Type 0
  Belongs (name a) b = Some (Below b a) facts
  Belongs (child t d) b = Reaches (Step rules) (Start (turn d)) b

  -- it belongs a partner already
  abbrev pub Partnered : Thing → Directed → Type 0
  Partnered (name a) d = Given (Start d) a
  Partnered (child t e) d = e ≡ turn d

  abbrev pub Blocked : Thing → Directed → Type 0
  Blocked t d = Memᴰ (Single d) rules × Partnered t d

  -- a partner is made unless there is one already and no two are allowed
  abbrev pub Alive : Thing → Type 0
  Alive (name a) = Unit {0}
  Alive (child t d) = Alive t × Belongs t (Start d) × ¬ (Blocked t d)

  abbrev pub Across : Directed → Name → Name → Fact → Type 0
  Across d a b f = (e : Directed) × (f ≡ linked e a b) × Reaches (LinkStep rules) e d

  pub data Joined (d : Directed) (x y : Thing) : Type 0 where
    told : (a b : Name) → x ≡ name a → y ≡ name b → Some (Across d a b) facts → Joined d x y
    down : (e : Directed) → y ≡ child x e → Alive y → Reaches (LinkStep rules) e d → Joined d x y
    up : (e : Directed) → x ≡ child y e → Alive x → Reaches (LinkStep rules) (turn e) d → Joined d x y

  -- all of it is decided
  below : (b : Basic) (a : Name) (f : Fact) → Dec (Below b a f)
  below b a (InClass c x) = map_dec there from (both (same_name x a) (reached rules (Named c) b))
    where
      there : (x ≡ a) × Reaches (Step rules) (Named c) b → Below b a (InClass c x)
      there t = (Named c, ap (InClass c) t.0, t.1)

      from' : (e : Basic) → At (InClass c x) e a → Reaches (Step rules) e b → (x ≡ a) × Reaches (Step rules) (Named c) b
      from' (Named e) p r = (cc, subst (λ (k : Class). Reaches (Step rules) (Named k) b) (cc) r)
      from' (Start d) p r = absurd (not_linked d a p.0 x c p.1)

      from : Below b a (InClass c x) → (x ≡ a) × Reaches (Step rules) (Named c) b
      from t = from' t.0 t.1 t.2
  below b a (Linked l x y) = map_dec there from (either (both (same_name x a) (reached rules (Start (Forward l)) b)) (both (same_name y a) (reached rules (Start (Backward l)) b)))
    where
      Ways : Type 0
      Ways = ((x ≡ a) × Reaches (Step rules) (Start (Forward l)) b) ⊎ ((y ≡ a) × Reaches (Step rules) (Start (Backward l)) b)

      there : Ways → Below b a (Linked l x y)
      there (inl t) = (Start (Forward l), (y, ap (λ (k : Name). Linked l k y) t.0), t.1)
      there (inr t) = (Start (Backward l), (x, ap (λ (k : Name). Linked l x k) t.0), t.1)

      from' : (e : Basic) → At (Linked l x y) e a → Reaches (Step rules) e b → Ways
      from' (Named e) p r = absurd (not_linked (Forward l) x y a e (sym p))
      from' (Start d) p r = ⊎_elim
          (λ s. inl (sym s.1, subst (λ (k : Directed). Reaches (Step rules) (Start k) b) s.0 r))
          (λ s. inr (sym s.1, subst (λ (k : Directed). Reaches (Step rules) (Start k) b) s.0 r))
          (linked_same d (Forward l) a p.0 x y (sym p.1))

      from : Below b a (Linked l x y) → Ways
      from t = from' t.0 t.1 t.2

  starts : (d : Directed) (a : Name) (f : Fact) → Dec (At f (Start d) a)
  starts d a (InClass c x) = no (λ p. not_linked d a p.0 x c p.1)
  starts d a (Linked l x y) = map_dec there from (either (both (same_directed d (Forward l)) (same_name a x)) (both (same_directed d (Backward l)) (same_name a y)))
    where
      Ways : Type 0
      Ways = ((d ≡ Forward l) × (a ≡ x)) ⊎ ((d ≡ Backward l) × (a ≡ y))

      there : Ways → At (Linked l x y) (Start d) a
      there (inl t) = (y, λ i. linked (sym t.0 i) (sym t.1 i) y)
      there (inr t) = (x, λ i. linked (sym t.0 i) (sym t.1 i) x)

      from : At (Linked l x y) (Start d) a → Ways
      from p = ⊎_elim (λ s. inl (s.0, s.1)) (λ s. inr (s.0, s.1)) (linked_same d (Forward l) a p.0 x y (sym p.1))

  across : (d : Directed) (a b : Name) (f : Fact) → Dec (Across d a b f)
  across d a b (InClass c x) = no (λ p. not_linked p.0 a b x c p.1)
  across d a b (Linked l x y) = map_dec there from (either
      (both (links_reached rules (Forward l) d) (both (same_name a x) (same_name b y)))
      (both (links_reached rules (Backward l) d) (both (same_name a y) (same_name b x))))
    where
      Ways : Type 0
      Ways = (Reaches (LinkStep rules) (Forward l) d × ((a ≡ x) × (b ≡ y))) ⊎ (Reaches (LinkStep rules) (Backward l) d × ((a ≡ y) × (b ≡ x)))

      there : Ways → Across d a b (Linked l x y)
      there (inl t) = (Forward l, (λ i. Linked l (sym t.1.0 i) (sym t.1.1 i)), t.0)
      there (inr t) = (Backward l, (λ i. Linked l (sym t.1.1 i) (sym t.1.0 i)), t.0)

      from : Across d a b (Linked l x y) → Ways
      from p = ⊎_elim
          (λ s. inl (subst (λ (k : Directed). Reaches (LinkStep rules) k d) s.0 p.2, (s.1, s.2)))
          (λ s. inr (subst (λ (k : Directed). Reaches (LinkStep rules) k d) s.0 p.2, (s.1, s.2)))
          (linked_same p.0 (Forward l) a b x y (sym p.1))

  pub belongs : (t : Thing) (b : Basic) → Dec (Belongs t b)
  belongs (name a) b = some (Below b a) (below b a) facts
  belongs (child t d) b = reached rules (Start (turn d)) b

  partnered : (t : Thing) (d : Directed) → Dec (Partnered t d)
  partnered (name a) d = some (λ f. At f (Start d) a) (starts d a) facts
  partnered (child t e) d = same_directed e (turn d)

  pub blocked : (t : Thing) (d : Directed) → Dec (Blocked t d)
  blocked t d = both (single d rules) (partnered t d)

  pub alive : (t : Thing) → Dec (Alive t)
  alive (name a) = yes tt
  alive (child t d) = map_dec (λ p. (p.0, p.1.0, p.1.1)) (λ p. (p.0, (p.1, p.2))) (both (alive t) (both (belongs t (Start d)) (never (blocked t d))))

  abbrev Told : Directed → Thing → Thing → Type 0
  Told d x y = (a : Name) × (b : Name) × (x ≡ name a) × (y ≡ name b) × Some (Across d a b) facts

  told? : (d : Directed) (x y : Thing) → Dec (Told d x y)
  told? d (name a) (name b) = map_dec (λ s. (a, b, refl, refl, s)) from (some (Across d a b) (across d a b) facts)
    where
      from : Told d (name a) (name b) → Some (Across d a b) facts
      from t =
          let u = t.0 in let v = t.1 in let p = t.2 in let q = t.3 in let s = t.4 in
          let pu : u ≡ a = cc in
          let qv : v ≡ b = cc in
          subst₂ (λ (k m : Name). Some (Across d k m) facts) pu qv s
  told? d (name a) (child y e) = no (λ t. let p = t.3 in let z : ◌≡◌ {A = ℕ} 0 1 = cc in omega arith)
  told? d (child x e) y = no (λ t. let p = t.2 in let z : ◌≡◌ {A = ℕ} 0 1 = cc in omega arith)

  abbrev Made : (Directed → Directed) → Directed → Thing → Thing → Type 0
  Made g d x y = (e : Directed) × (y ≡ child x e) × Alive y × Reaches (LinkStep rules) (g e) d

  made? : (g : Directed → Directed) (d : Directed) (x y : Thing) → Dec (Made g d x y)
  made? g d x (name a) = no (λ t. let p = t.1 in let z : ◌≡◌ {A = ℕ} 0 1 = cc in omega arith)
  made? g d x (child y e) = map_dec
      (λ t. (e, ap (λ (z : Thing). child z e) t.0, t.1.0, t.1.1))
      from
      (both (same_thing y x) (both (alive (child y e)) (links_reached rules (g e) d)))
    where
      from : Made g d x (child y e) → (y ≡ x) × (Alive (child y e) × Reaches (LinkStep rules) (g e) d)
      from t =
          let p = t.1 in
          let q : t.0 ≡ e = cc in
          (cc, (t.2, subst (λ (k : Directed). Reaches (LinkStep rules) (g k) d) q t.3))

  pub joined : (d : Directed) (x y : Thing) → Dec (Joined d x y)
  joined d x y = map_dec there from (either (told? d x y) (either (made? (λ e. e) d x y) (made? turn d y x)))
    where
      there : Told d x y ⊎ (Made (λ e. e) d x y ⊎ Made turn d y x) → Joined d x y
      there (inl t) = told t.0 t.1 t.2 t.3 t.4
      there (inr (inl t)) = down t.0 t.1 t.2 t.3
      there (inr (inr t)) = up t.0 t.1 t.2 t.3

      from : Joined d x y → Told d x y ⊎ (Made (λ e. e) d x y ⊎ Made turn d y x)
      from (told a b p q s) = inl (a, b, p, q, s)
      from (down e p l r) = inr (inl (e, p, l, r))
      from (up e p l r) = inr (inr (e, p, l, r))
