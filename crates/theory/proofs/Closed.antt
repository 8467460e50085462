use Rattle.std.proofs.Common.{◌≡◌, ℕ, ◌⊎◌, List, map, sym, refl, ap, ◌∙◌, subst, subst₂, inl, inr, ⊎_elim, arith}
use mathlib.Core.List.Memᴰ
use mathlib.Core.List.{Memᴰ}
use native.Mathlib.Decide.{map_dec}
use Rattle.vocabulary.specs.declared.basic.Directed.{Directed}
use Rattle.vocabulary.specs.declared.basic.Directed.TheVariants.{Forward, Backward}
use Rattle.vocabulary.specs.declared.basic.Basic.{Basic}
use Rattle.vocabulary.specs.declared.basic.Basic.TheVariants.{Named, Start}
use Rattle.vocabulary.specs.declared.rules.Family.{Family}
use Rattle.vocabulary.specs.declared.rules.Family.TheVariants.{R, F}
use Rattle.vocabulary.specs.declared.rules.Rule.{Rule}
use Rattle.vocabulary.specs.declared.rules.Rule.TheVariants.{Within, Apart, LinkWithin, LinkApart, Single}
use Rattle.vocabulary.specs.Codes.{turn}
use Rattle.vocabulary.specs.Families.{LinksToo}
use Rattle.theory.specs.Closure.{Exclusion, classes, links, Excluded, apart, link_apart, swap, link_swap, link_turn, narrow, narrow_start, narrow_end, link_narrow, other_end, empty_link, link_empty}
use Rattle.theory.specs.Reaching.{LinkStep, along, Step, by_rule, by_link, Reaches, here, then}
use Rattle.theory.specs.Following.{Empty, Implied}
use Rattle.theory.proofs.Decisions.{some, either, both}
use Rattle.theory.proofs.Ways.{Edge, edge, Way, stay, go, way_some}
use Rattle.theory.proofs.Reached.{same_basic, turned_step, turned_reach, start_reach, single, steps, step_in, step_out, reached, links_reached, reached_some, links_reached_some, narrow_step, narrowed_both, links_narrowed_both}
use Rattle.vocabulary.proofs.Codes.{turn_turn}

-- The exclusion closure in closed form, which can be decided. A link and the turned link are empty together, so emptiness
-- is followed along the steps with the directions left out.
abbrev plain : Basic → Basic
plain (Named c) = Named c
plain (Start (Forward l)) = Start (Forward l)
plain (Start (Backward l)) = Start (Forward l)

plain_turn : (d : Directed) → plain (Start (turn d)) ≡ plain (Start d)
plain_turn (Forward l) = refl
plain_turn (Backward l) = refl

abbrev plain_edge : Edge Basic → Edge Basic
plain_edge e = edge (plain e.from) (plain e.to)

module _ (k : Family) (rules : List Rule) where
  -- one is below p and the other below q
  abbrev Over : Basic → Basic → Basic → Basic → Type 0
  Over b c p q = (Reaches (Step rules) b p × Reaches (Step rules) c q) ⊎ (Reaches (Step rules) b q × Reaches (Step rules) c p)

  abbrev LinkOver : Directed → Directed → Directed → Directed → Type 0
  LinkOver d e p q = (Reaches (LinkStep rules) d p × Reaches (LinkStep rules) e q) ⊎ (Reaches (LinkStep rules) d q × Reaches (LinkStep rules) e p)

  -- they lie below a rule
  abbrev Hit : Basic → Basic → Type 0
  Hit b c = (p : Basic) × (q : Basic) × Memᴰ (Apart p q) rules × Over b c p q

  abbrev LinkHit : Directed → Directed → Type 0
  LinkHit d e = (p : Directed) × (q : Directed) × Memᴰ (LinkApart p q) rules × LinkOver d e p q

  abbrev Base : Basic → Type 0
  Base (Named c) = Hit (Named c) (Named c)
  Base (Start d) = Hit (Start d) (Start d) ⊎ LinkHit d d

  ways : List (Edge Basic)
  ways = map plain_edge (steps rules)

  abbrev PlainBase : Basic → Type 0
  PlainBase n = (c : Basic) × (plain c ≡ n) × Base c

  abbrev Void : Basic → Type 0
  Void b = (n : Basic) × Way ways (plain b) n × PlainBase n

  abbrev Closed : Exclusion → Type 0
  Closed (classes b c) = Hit b c ⊎ ((x : Basic) × Reaches (Step rules) b x × (Reaches (Step rules) c x × Void x))
  Closed (links d e) = (LinkHit d e ⊎ LinkHit (turn d) (turn e))
      ⊎ (LinksToo k × ((f : Directed) × Reaches (LinkStep rules) d f × (Reaches (LinkStep rules) e f × Void (Start f))))

  -- emptiness
  void_base : (b : Basic) → Base b → Void b
  void_base b h = (plain b, stay refl, (b, refl, h))

  void_step : {b c : Basic} → Step rules b c → Void c → Void b
  unfolding ways
  void_step {b} {c} s (n, w, h) = (n, go (plain_edge (edge b c)) (Memᴰ.map plain_edge (step_in rules b c s)) refl w, h)

  void_reach : {b c : Basic} → Reaches (Step rules) b c → Void c → Void b
  void_reach here v = v
  void_reach (then s r) v = void_step s (void_reach r v)

  void_turn : (d : Directed) → Void (Start (turn d)) → Void (Start d)
  void_turn d (n, w, h) = (n, subst (λ (x : Basic). Way ways x n) (plain_turn d) w, h)

  to_plain : (b : Basic) → Empty k rules b → Empty k rules (plain b)
  to_plain (Named c) e = e
  to_plain (Start (Forward l)) e = e
  to_plain (Start (Backward l)) e = other_end e

  from_plain : (b : Basic) → Empty k rules (plain b) → Empty k rules b
  from_plain (Named c) e = e
  from_plain (Start (Forward l)) e = e
  from_plain (Start (Backward l)) e = other_end e

  plain_empty : (b c : Basic) → plain b ≡ plain c → Empty k rules c → Empty k rules b
  plain_empty b c p e = from_plain b (subst (Empty k rules) (sym p) (to_plain c e))

  way_empty : {x y : Basic} → Way ways x y → (b c : Basic) → x ≡ plain b → y ≡ plain c → Empty k rules c → Empty k rules b
  unfolding ways
  way_empty (stay p) b c q r e = plain_empty b c (sym q ∙ p ∙ r) e
  way_empty {y = y} (go f m p w) b c q r e =
      let t = Memᴰ.of_map plain_edge (steps rules) m in
      let g = t.0 in
      let i = way_empty w g.to c (ap (λ (u : Edge Basic). u.to) (sym t.2)) r e in
      let s = step_out rules g t.1 in
      plain_empty b g.from (sym q ∙ p ∙ ap (λ (u : Edge Basic). u.from) (sym t.2)) (narrow_step s (swap (narrow_step s i)))

  hit_excluded : {b c : Basic} → Hit b c → Excluded k rules (classes b c)
  hit_excluded (p, q, m, o) = ⊎_elim (λ t. narrowed_both t.0 t.1 (apart m)) (λ t. narrowed_both t.0 t.1 (swap (apart m))) o

  link_hit_excluded : {d e : Directed} → LinkHit d e → Excluded k rules (links d e)
  link_hit_excluded (p, q, m, o) = ⊎_elim (λ t. links_narrowed_both t.0 t.1 (link_apart m)) (λ t. links_narrowed_both t.0 t.1 (link_swap (link_apart m))) o

  base_empty : (c : Basic) → Base c → Empty k rules c
  base_empty (Named c) h = hit_excluded h
  base_empty (Start d) (inl h) = hit_excluded h
  base_empty (Start d) (inr h) = link_empty (link_hit_excluded h)

  void_empty : {b : Basic} → Void b → Empty k rules b
  void_empty {b} (n, w, (c, p, h)) = way_empty w b c refl (sym p) (base_empty c h)

  closed_excluded : (e : Exclusion) → Closed e → Excluded k rules e
  closed_excluded (classes b c) (inl h) = hit_excluded h
  closed_excluded (classes b c) (inr (x, s, (t, v))) = narrowed_both s t (void_empty v)
  closed_excluded (links d e) (inl (inl h)) = link_hit_excluded h
  closed_excluded (links d e) (inl (inr h)) = link_turn (link_hit_excluded h)
  closed_excluded (links d e) (inr (y, (f, s, (t, v)))) = links_narrowed_both s t (empty_link y (void_empty v))

  -- the closed form is closed
  base_of : (b : Basic) → Hit b b → Base b
  base_of (Named c) h = h
  base_of (Start d) h = inl h

  closed_void : (b : Basic) → Closed (classes b b) → Void b
  closed_void b (inl h) = void_base b (base_of b h)
  closed_void b (inr (x, s, (t, v))) = void_reach s v

  links_void : (d : Directed) → Closed (links d d) → Void (Start d)
  links_void d (inl (inl h)) = void_base (Start d) (inr h)
  links_void d (inl (inr h)) = void_turn d (void_base (Start (turn d)) (inr h))
  links_void d (inr (y, (f, s, (t, v)))) = void_reach (start_reach s) v

  swapped : {A B C D : Type 0} → (A × B) ⊎ (C × D) → (D × C) ⊎ (B × A)
  swapped (inl t) = inr (t.1, t.0)
  swapped (inr t) = inl (t.1, t.0)

  hit_swap : {b c : Basic} → Hit b c → Hit c b
  hit_swap (p, q, m, o) = (p, q, m, swapped o)

  link_hit_swap : {d e : Directed} → LinkHit d e → LinkHit e d
  link_hit_swap (p, q, m, o) = (p, q, m, swapped o)

  hit_narrow : {a b c : Basic} → Step rules a b → Hit b c → Hit a c
  hit_narrow s (p, q, m, o) = (p, q, m, ⊎_elim (λ t. inl (then s t.0, t.1)) (λ t. inr (then s t.0, t.1)) o)

  link_hit_narrow : {a b c : Directed} → LinkStep rules a b → LinkHit b c → LinkHit a c
  link_hit_narrow s (p, q, m, o) = (p, q, m, ⊎_elim (λ t. inl (then s t.0, t.1)) (λ t. inr (then s t.0, t.1)) o)

  closed_narrow : {a b c : Basic} → Step rules a b → Closed (classes b c) → Closed (classes a c)
  closed_narrow s h = ⊎_elim (λ t. inl (hit_narrow s t)) (λ t. inr (t.0, then s t.1, t.2)) h

  untwist_reach : (d f : Directed) → Reaches (LinkStep rules) (turn d) f → Reaches (LinkStep rules) d (turn f)
  untwist_reach d f r = subst (λ (x : Directed). Reaches (LinkStep rules) x (turn f)) (turn_turn d) (turned_reach r)

  excluded_closed : {e : Exclusion} → Excluded k rules e → Closed e
  excluded_closed (apart {b = b} {c = c} m) = inl (b, c, m, inl (here, here))
  excluded_closed (link_apart {d = d} {e = e} m) = inl (inl (d, e, m, inl (here, here)))
  excluded_closed (swap h) = ⊎_elim (λ t. inl (hit_swap t)) (λ t. inr (t.0, t.2.0, (t.1, t.2.1))) (excluded_closed h)
  excluded_closed (link_swap h) = ⊎_elim
      (λ t. inl (⊎_elim (λ u. inl (link_hit_swap u)) (λ u. inr (link_hit_swap u)) t))
      (λ t. inr (t.0, (t.1.0, t.1.2.0, (t.1.1, t.1.2.1))))
      (excluded_closed h)
  excluded_closed (link_turn {d = d} {e = e} h) = ⊎_elim
      (λ t. inl (⊎_elim (λ u. inr u) (λ u. inl (subst₂ LinkHit (turn_turn d) (turn_turn e) u)) t))
      (λ t. let f = t.1.0 in inr (t.0, (turn f, untwist_reach d f t.1.1, (untwist_reach e f t.1.2.0, void_turn (turn f) (subst (λ (x : Directed). Void (Start x)) (sym (turn_turn f)) t.1.2.1)))))
      (excluded_closed h)
  excluded_closed (narrow m h) = closed_narrow (by_rule m) (excluded_closed h)
  excluded_closed (narrow_start m h) = closed_narrow (by_link (along m)) (excluded_closed h)
  excluded_closed (narrow_end m h) = closed_narrow (by_link (turned_step (along m))) (excluded_closed h)
  excluded_closed (link_narrow m h) = let s = along m in ⊎_elim
      (λ t. inl (⊎_elim (λ u. inl (link_hit_narrow s u)) (λ u. inr (link_hit_narrow (turned_step s) u)) t))
      (λ t. inr (t.0, (t.1.0, then s t.1.1, t.1.2)))
      (excluded_closed h)
  excluded_closed (other_end {d = d} h) = inr (Start d, here, (here, void_turn d (closed_void (Start (turn d)) (excluded_closed h))))
  excluded_closed (empty_link {d = d} y h) = inr (y, (d, here, (here, closed_void (Start d) (excluded_closed h))))
  excluded_closed (link_empty {d = d} h) = inr (Start d, here, (here, links_void d (excluded_closed h)))

  -- the closed form is decided
  links_too : (family : Family) → Dec (LinksToo family)
  links_too R = yes tt
  links_too F = no (λ h. h)

  abbrev HitBy : Basic → Basic → Rule → Type 0
  HitBy b c (Within p q) = ⊥
  HitBy b c (Apart p q) = Over b c p q
  HitBy b c (LinkWithin p q) = ⊥
  HitBy b c (LinkApart p q) = ⊥
  HitBy b c (Single p) = ⊥

  hit_by : (b c : Basic) (r : Rule) → Dec (HitBy b c r)
  hit_by b c (Within p q) = no (λ h. h)
  hit_by b c (Apart p q) = either (both (reached rules b p) (reached rules c q)) (both (reached rules b q) (reached rules c p))
  hit_by b c (LinkWithin p q) = no (λ h. h)
  hit_by b c (LinkApart p q) = no (λ h. h)
  hit_by b c (Single p) = no (λ h. h)

  some_hit : (b c : Basic) (r : Rule) → Memᴰ r rules → HitBy b c r → Hit b c
  some_hit b c (Within p q) m h = absurd h
  some_hit b c (Apart p q) m h = (p, q, m, h)
  some_hit b c (LinkWithin p q) m h = absurd h
  some_hit b c (LinkApart p q) m h = absurd h
  some_hit b c (Single p) m h = absurd h

  hit : (b c : Basic) → Dec (Hit b c)
  hit b c = map_dec (λ t. some_hit b c t.0 t.1 t.2) (λ t. (Apart t.0 t.1, t.2, t.3)) (some (HitBy b c) (hit_by b c) rules)

  abbrev LinkHitBy : Directed → Directed → Rule → Type 0
  LinkHitBy d e (Within p q) = ⊥
  LinkHitBy d e (Apart p q) = ⊥
  LinkHitBy d e (LinkWithin p q) = ⊥
  LinkHitBy d e (LinkApart p q) = LinkOver d e p q
  LinkHitBy d e (Single p) = ⊥

  link_hit_by : (d e : Directed) (r : Rule) → Dec (LinkHitBy d e r)
  link_hit_by d e (Within p q) = no (λ h. h)
  link_hit_by d e (Apart p q) = no (λ h. h)
  link_hit_by d e (LinkWithin p q) = no (λ h. h)
  link_hit_by d e (LinkApart p q) = either (both (links_reached rules d p) (links_reached rules e q)) (both (links_reached rules d q) (links_reached rules e p))
  link_hit_by d e (Single p) = no (λ h. h)

  some_link_hit : (d e : Directed) (r : Rule) → Memᴰ r rules → LinkHitBy d e r → LinkHit d e
  some_link_hit d e (Within p q) m h = absurd h
  some_link_hit d e (Apart p q) m h = absurd h
  some_link_hit d e (LinkWithin p q) m h = absurd h
  some_link_hit d e (LinkApart p q) m h = (p, q, m, h)
  some_link_hit d e (Single p) m h = absurd h

  link_hit : (d e : Directed) → Dec (LinkHit d e)
  link_hit d e = map_dec (λ t. some_link_hit d e t.0 t.1 t.2) (λ t. (LinkApart t.0 t.1, t.2, t.3)) (some (LinkHitBy d e) (link_hit_by d e) rules)

  base : (c : Basic) → Dec (Base c)
  base (Named c) = hit (Named c) (Named c)
  base (Start d) = either (hit (Start d) (Start d)) (link_hit d d)

  plain_base : (n : Basic) → Dec (PlainBase n)
  plain_base (Named x) = map_dec (λ h. (Named x, refl, h)) (λ t. from t.0 t.1 t.2) (base (Named x))
    where
      from : (c : Basic) → plain c ≡ Named x → Base c → Base (Named x)
      from (Named y) p h = subst Base p h
      from (Start (Forward l)) p h = absurd (let z : ◌≡◌ {A = ℕ} 0 1 = cc in omega arith)
      from (Start (Backward l)) p h = absurd (let z : ◌≡◌ {A = ℕ} 0 1 = cc in omega arith)
  plain_base (Start (Forward x)) = map_dec
      (⊎_elim (λ h. (Start (Forward x), refl, h)) (λ h. (Start (Backward x), refl, h)))
      (λ t. from t.0 t.1 t.2)
      (either (base (Start (Forward x))) (base (Start (Backward x))))
    where
      from : (c : Basic) → plain c ≡ Start (Forward x) → Base c → Base (Start (Forward x)) ⊎ Base (Start (Backward x))
      from (Named y) p h = absurd (let z : ◌≡◌ {A = ℕ} 0 1 = cc in omega arith)
      from (Start (Forward l)) p h = inl (subst Base p h)
      from (Start (Backward l)) p h = let q : Start (Backward l) ≡ Start (Backward x) = cc in inr (subst Base q h)
  plain_base (Start (Backward x)) = no (λ t. from t.0 t.1)
    where
      from : (c : Basic) → plain c ≡ Start (Backward x) → ⊥
      from (Named y) p = let z : ◌≡◌ {A = ℕ} 0 1 = cc in omega arith
      from (Start (Forward l)) p = let z : ◌≡◌ {A = ℕ} 0 1 = cc in omega arith
      from (Start (Backward l)) p = let z : ◌≡◌ {A = ℕ} 0 1 = cc in omega arith

  void : (b : Basic) → Dec (Void b)
  void b = way_some same_basic ways (plain b) PlainBase plain_base

  closed : (e : Exclusion) → Dec (Closed e)
  closed (classes b c) = either (hit b c) (reached_some rules b (λ x. Reaches (Step rules) c x × Void x) (λ x. both (reached rules c x) (void x)))
  closed (links d e) = either (either (link_hit d e) (link_hit (turn d) (turn e)))
      (both (links_too k) (links_reached_some rules d (λ f. Reaches (LinkStep rules) e f × Void (Start f)) (λ f. both (links_reached rules e f) (void (Start f)))))

  pub excluded : (e : Exclusion) → Dec (Excluded k rules e)
  excluded e = map_dec (closed_excluded e) excluded_closed (closed e)

  pub implied : (r : Rule) → Dec (Implied k rules r)
  implied (Within b c) = either (reached rules b c) (excluded (classes b b))
  implied (Apart b c) = either (excluded (classes b c)) (either (excluded (classes b b)) (excluded (classes c c)))
  implied (LinkWithin d e) = either (links_reached rules d e) (excluded (classes (Start d) (Start d)))
  implied (LinkApart d e) = either (excluded (links d e))
      (either (excluded (classes (Start d) (Start e)))
      (either (excluded (classes (Start (turn d)) (Start (turn e))))
      (either (excluded (classes (Start d) (Start d))) (excluded (classes (Start e) (Start e))))))
  implied (Single d) = either (single d rules) (excluded (classes (Start d) (Start d)))
