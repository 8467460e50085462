-- A rule that reaching and the closure do not give fails in the canonical world of two facts about one name.
use Rattle.std.proofs.Common.{◌≡◌, ℕ, ◌⊎◌, ◌↔◌, List, [], ◌∷◌, sym, refl, ap, ◌∙◌, subst, subst₂, inl, inr, ⊎_elim, arith}
use mathlib.Core.List.{Memᴰ}
use mathlib.Core.Logic.{by_cases}
use Rattle.vocabulary.specs.declared.numbers.Name.{Name}
use Rattle.vocabulary.specs.declared.basic.Directed.{Directed}
use Rattle.vocabulary.specs.declared.basic.Basic.{Basic}
use Rattle.vocabulary.specs.declared.basic.Basic.TheVariants.{Named, Start}
use Rattle.vocabulary.specs.declared.rules.Family.{Family}
use Rattle.vocabulary.specs.declared.rules.Rule.{Rule}
use Rattle.vocabulary.specs.declared.rules.Rule.TheVariants.{Within, Apart, LinkWithin, LinkApart, Single}
use Rattle.vocabulary.specs.declared.facts.Fact.{Fact}
use Rattle.vocabulary.specs.declared.facts.Fact.TheVariants.{InClass}
use Rattle.std.specs.List.{AllByRecursion}
use Rattle.theory.specs.Worlds.{World, shape, In, Keeps, Has, Follows}
use Rattle.vocabulary.specs.Codes.{turn}
use Rattle.theory.specs.Closure.{classes, links, Excluded, swap, link_swap, link_turn, other_end, link_empty}
use Rattle.theory.specs.Reaching.{LinkStep, Step, Reaches}
use Rattle.theory.specs.Clashes.{linked, At, Clash, at_one, across_one, two_partners, Calm, Lawful}
use Rattle.theory.specs.Following.{Empty, Implied}
use Rattle.theory.proofs.Lists.{Some, one_of_two}
use Rattle.theory.proofs.Reached.{same_basic}
use Rattle.vocabulary.proofs.Codes.{turn_turn}
use Rattle.theory.proofs.Numbering.{Thing, name}
use Rattle.theory.proofs.Things.{Belongs, Joined, told, down, up, Below, Same, linked_same, not_linked}
use Rattle.theory.proofs.Closed.{implied}
use Rattle.theory.proofs.Steps.{has_link, has_at}
use Rattle.theory.proofs.Exclusions.{implied_follows}
use Rattle.theory.proofs.Canonical.{canonical, named, told_in, in_has, pair_joined, keeps_all}

abbrev n0 : Name
n0 = record { 0 = 0 }

abbrev n1 : Name
n1 = record { 0 = 1 }

abbrev n2 : Name
n2 = record { 0 = 2 }

apart_by : (a b : Name) → ¬ (a.0 ≡ b.0) → ¬ (a ≡ b)
apart_by a b n p = n (ap (λ (x : Name). x.0) p)

0≢1 : ¬ (n0 ≡ n1)
0≢1 = apart_by n0 n1 (omega arith)

0≢2 : ¬ (n0 ≡ n2)
0≢2 = apart_by n0 n2 (omega arith)

1≢2 : ¬ (n1 ≡ n2)
1≢2 = apart_by n1 n2 (omega arith)

-- a fact that puts the name 0 in a basic class, with the partner j
abbrev saying : Basic → Name → Fact
saying (Named c) j = InClass c n0
saying (Start d) j = linked d n0 j

saying_at : (b : Basic) (j : Name) → At (saying b j) b n0
saying_at (Named c) j = refl
saying_at (Start d) j = (j, refl)

abbrev Other : Basic → Name → Basic → Name → Type 0
Other b j c a = (d : Directed) × (b ≡ Start d) × (c ≡ Start (turn d)) × (a ≡ j)

at_saying : (b c : Basic) (j a : Name) → At (saying b j) c a → ((c ≡ b) × (a ≡ n0)) ⊎ Other b j c a
at_saying (Named x) (Named y) j a p = inl (cc, cc)
at_saying (Named x) (Start e) j a p = absurd (not_linked e a p.0 n0 x p.1)
at_saying (Start d) (Named y) j a p = absurd (not_linked d n0 j a y (sym p))
at_saying (Start d) (Start e) j a p = ⊎_elim
    (λ s. inl (ap Start (sym s.0), sym s.1))
    (λ s. inr (d, refl, ap Start (sym (turn_turn e) ∙ ap turn (sym s.0)), sym s.2))
    (linked_same d e n0 j a p.0 p.1)

across_saying : (b : Basic) (e : Directed) (j a c : Name) → saying b j ≡ linked e a c → (d : Directed) × (b ≡ Start d) × (Same e a c d n0 j ⊎ Same e a c (turn d) j n0)
across_saying (Named x) e j a c p = absurd (not_linked e a c n0 x p)
across_saying (Start d) e j a c p = (d, refl, linked_same e d a c n0 j (sym p))

module _ (k : Family) (rules : List Rule) where
  -- why two such facts may clash
  data Trouble (b c : Basic) (j l : Name) : Type 0 where
    same_class : Excluded k rules (classes b c) → Trouble b c j l
    same_pair : (d e : Directed) → b ≡ Start d → c ≡ Start e → j ≡ l → Excluded k rules (links d e) → Trouble b c j l
    same_end : (d e : Directed) → b ≡ Start d → c ≡ Start e → j ≡ l → Excluded k rules (classes (Start (turn d)) (Start (turn e))) → Trouble b c j l
    both_single : (d : Directed) → b ≡ Start d → c ≡ Start d → ¬ (j ≡ l) → Memᴰ (Single d) rules → Trouble b c j l

  trouble : (b c : Basic) (j l : Name) → ¬ (n0 ≡ j) → ¬ (n0 ≡ l) → Clash k rules (saying b j) (saying c l) → Trouble b c j l
  trouble b c j l nj nl (at_one a b' c' p q e) = at (at_saying b b' j a p) (at_saying c c' l a q)
    where
      at : ((b' ≡ b) × (a ≡ n0)) ⊎ Other b j b' a → ((c' ≡ c) × (a ≡ n0)) ⊎ Other c l c' a → Trouble b c j l
      at (inl s) (inl t) = same_class (subst₂ (λ (x y : Basic). Excluded k rules (classes x y)) s.0 t.0 e)
      at (inl s) (inr t) = absurd (nl (sym s.1 ∙ t.3))
      at (inr s) (inl t) = absurd (nj (sym t.1 ∙ s.3))
      at (inr s) (inr t) = same_end s.0 t.0 s.1 t.1 (sym s.3 ∙ t.3) (subst₂ (λ (x y : Basic). Excluded k rules (classes x y)) s.2 t.2 e)
  trouble b c j l nj nl (across_one a x d' e' p q h) = let s = across_saying b d' j a x p in let t = across_saying c e' l a x q in at s.0 s.1 t.0 t.1 s.2 t.2
    where
      at : (d : Directed) → b ≡ Start d → (e : Directed) → c ≡ Start e → Same d' a x d n0 j ⊎ Same d' a x (turn d) j n0 → Same e' a x e n0 l ⊎ Same e' a x (turn e) l n0 → Trouble b c j l
      at d p e q (inl s) (inl t) = same_pair d e p q (sym s.2 ∙ t.2) (subst₂ (λ (x y : Directed). Excluded k rules (links x y)) s.0 t.0 h)
      at d p e q (inl s) (inr t) = absurd (nl (sym s.1 ∙ t.1))
      at d p e q (inr s) (inl t) = absurd (nj (sym t.1 ∙ s.1))
      at d p e q (inr s) (inr t) = same_pair d e p q (sym s.1 ∙ t.1) (link_turn (subst₂ (λ (x y : Directed). Excluded k rules (links x y)) s.0 t.0 h))
  trouble b c j l nj nl (two_partners a x y d' m p q n) = let s = across_saying b d' j a x p in let t = across_saying c d' l a y q in at s.0 s.1 t.0 t.1 s.2 t.2
    where
      at : (d : Directed) → b ≡ Start d → (e : Directed) → c ≡ Start e → Same d' a x d n0 j ⊎ Same d' a x (turn d) j n0 → Same d' a y e n0 l ⊎ Same d' a y (turn e) l n0 → Trouble b c j l
      at d p e q (inl s) (inl t) = both_single d' (p ∙ ap Start (sym s.0)) (q ∙ ap Start (sym t.0)) (λ o. n (s.2 ∙ o ∙ sym t.2)) m
      at d p e q (inl s) (inr t) = absurd (nl (sym s.1 ∙ t.1))
      at d p e q (inr s) (inl t) = absurd (nj (sym t.1 ∙ s.1))
      at d p e q (inr s) (inr t) = absurd (n (s.2 ∙ sym t.2))

  own : {b : Basic} {j : Name} → Trouble b b j j → Empty k rules b
  own (same_class e) = e
  own {b} (same_pair d e p q o x) =
      let r : e ≡ d = cc in
      subst (Empty k rules) (sym p) (link_empty (subst (λ (y : Directed). Excluded k rules (links d y)) r x))
  own {b} (same_end d e p q o x) =
      let r : e ≡ d = cc in
      subst (Empty k rules) (sym p) (other_end (subst (λ (y : Directed). Excluded k rules (classes (Start (turn d)) (Start (turn y)))) r x))
  own (both_single d p q n m) = absurd (n refl)

  other_way : {f g : Fact} → Clash k rules f g → Clash k rules g f
  other_way (at_one a b c p q e) = at_one a c b q p (swap e)
  other_way (across_one a b d e p q x) = across_one a b e d q p (link_swap x)
  other_way (two_partners a b c d m p q n) = two_partners a c b d m q p (λ o. n (sym o))

  calm_two : (f g : Fact) → ¬ (Clash k rules f f) → ¬ (Clash k rules g g) → ¬ (Clash k rules f g)
      → Calm k rules (f ∷ (g ∷ []))
  calm_two f g ff gg fg x y mx my c = at (one_of_two mx) (one_of_two my)
    where
      at : (x ≡ f) ⊎ (x ≡ g) → (y ≡ f) ⊎ (y ≡ g) → ⊥
      at (inl p) (inl q) = ff (subst₂ (Clash k rules) p q c)
      at (inl p) (inr q) = fg (subst₂ (Clash k rules) p q c)
      at (inr p) (inl q) = fg (other_way (subst₂ (Clash k rules) p q c))
      at (inr p) (inr q) = gg (subst₂ (Clash k rules) p q c)

  -- two facts about the name 0 that do not clash, and the world of them
  record Fine (b c : Basic) (j l : Name) : Type 0 where
    nj : ¬ (n0 ≡ j)
    nl : ¬ (n0 ≡ l)
    full_b : ¬ (Empty k rules b)
    full_c : ¬ (Empty k rules c)
    fine : ¬ (Trouble b c j l)

  module _ (lawful : Lawful rules) (b c : Basic) (j l : Name) (h : Fine b c j l) where
    open h use {nj, nl, full_b, full_c, fine}

    abbrev two : List Fact
    two = saying b j ∷ (saying c l ∷ [])

    calm : Calm k rules two
    calm = calm_two (saying b j) (saying c l) (λ h. full_b (own (trouble b b j j nj nj h))) (λ h. full_c (own (trouble c c l l nl nl h))) (λ h. fine (trouble b c j l nj nl h))

    abbrev small : World
    small = canonical rules two

    kept : AllByRecursion (Keeps (shape small)) rules
    kept = keeps_all k rules two calm lawful

    has_b : Has (shape small) (saying b j)
    has_b = told_in rules two (saying b j) (Memᴰ.head refl)

    has_c : Has (shape small) (saying c l)
    has_c = told_in rules two (saying c l) (Memᴰ.tail (Memᴰ.head refl))

    in_b : In (shape small) b (small.thing n0)
    in_b = has_at (shape small) (saying b j) b n0 (saying_at b j) has_b

    in_c : In (shape small) c (small.thing n0)
    in_c = has_at (shape small) (saying c l) c n0 (saying_at c l) has_c

    from_one : (f : Fact) (x y e : Basic) (i : Name) → ¬ (n0 ≡ i) → f ≡ saying x i → At f y n0 → Reaches (Step rules) y e → Reaches (Step rules) x e
    from_one f x y e i n p q r = ⊎_elim
        (λ s. subst (λ (z : Basic). Reaches (Step rules) z e) s.0 r)
        (λ s. absurd (n s.3))
        (at_saying x y i n0 (subst (λ (g : Fact). At g y n0) p q))

    -- what the name 0 is in
    only_those : (e : Basic) → In (shape small) e (small.thing n0) → Reaches (Step rules) b e ⊎ Reaches (Step rules) c e
    only_those e h = at (subst (λ (t : Thing). Belongs rules two t e) (named rules two n0) (in_has rules two e (small.thing n0) h).1)
      where
        at : Some (Below rules two e n0) two → Reaches (Step rules) b e ⊎ Reaches (Step rules) c e
        at (f, m, (y, p, r)) = ⊎_elim
            (λ q. inl (from_one f b y e j nj q p r))
            (λ q. inr (from_one f c y e l nl q p r))
            (one_of_two m)

  -- the links that the one fact gives from 0 to 1
  only_link : (d e : Directed) → Joined rules (linked d n0 n1 ∷ (linked d n0 n1 ∷ [])) e (name n0) (name n1) → Reaches (LinkStep rules) d e
  only_link d e (told a b p q (f, m, (c, u, r))) =
      ⊎_elim (λ s. subst (λ (x : Directed). Reaches (LinkStep rules) x e) s.0 r) (λ s. absurd (0≢1 (n0=a ∙ s.1)))
      (linked_same c d a b n0 n1 (sym u ∙ ⊎_elim (λ o. o) (λ o. o) (one_of_two m)))
    where
      n0=a : n0 ≡ a
      n0=a = cc
  only_link d e (down c p l r) = absurd (let z : ◌≡◌ {A = ℕ} 0 1 = cc in omega arith)
  only_link d e (up c p l r) = absurd (let z : ◌≡◌ {A = ℕ} 0 1 = cc in omega arith)

  module _ (lawful : Lawful rules) where
    refute_within : (b c : Basic) → ¬ (Implied k rules (Within b c)) → ¬ (Follows rules (Within b c))
    refute_within b c n f =
        let q : Fine b b n1 n1 = record { nj = 0≢1; nl = 0≢1; full_b = λ e. n (inr e); full_c = λ e. n (inr e); fine = λ t. n (inr (own t)) } in
        let w = small lawful b b n1 n1 q in
        ⊎_elim (λ r. n (inl r)) (λ r. n (inl r))
        (only_those lawful b b n1 n1 q c (f w (kept lawful b b n1 n1 q) (w.thing n0) (in_b lawful b b n1 n1 q)))

    apart_fine : (b c : Basic) → ¬ (Implied k rules (Apart b c)) → (l : Name) × Fine b c n1 l
    apart_fine b c n = at (same_basic b c)
      where
        at : Dec (b ≡ c) → (l : Name) × Fine b c n1 l
        at (yes p) = (n1, record { nj = 0≢1; nl = 0≢1; full_b = λ e. n (inr (inl e)); full_c = λ e. n (inr (inr e)); fine = λ t. n (inr (inl (own (subst (λ (x : Basic). Trouble b x n1 n1) (sym p) t)))) })
        at (no u) = (n2, record { nj = 0≢1; nl = 0≢2; full_b = λ e. n (inr (inl e)); full_c = λ e. n (inr (inr e)); fine = fine })
          where
            fine : ¬ (Trouble b c n1 n2)
            fine (same_class e) = n (inl e)
            fine (same_pair d e p q o x) = 1≢2 o
            fine (same_end d e p q o x) = 1≢2 o
            fine (both_single d p q o m) = u (p ∙ sym q)

    refute_apart : (b c : Basic) → ¬ (Implied k rules (Apart b c)) → ¬ (Follows rules (Apart b c))
    refute_apart b c n f =
        let t = apart_fine b c n in
        let w = small lawful b c n1 t.0 t.1 in
        f w (kept lawful b c n1 t.0 t.1) (w.thing n0) (in_b lawful b c n1 t.0 t.1) (in_c lawful b c n1 t.0 t.1)

    refute_link_within : (d e : Directed) → ¬ (Implied k rules (LinkWithin d e)) → ¬ (Follows rules (LinkWithin d e))
    refute_link_within d e n f =
        let q : Fine (Start d) (Start d) n1 n1 = record { nj = 0≢1; nl = 0≢1; full_b = λ e. n (inr e); full_c = λ e. n (inr e); fine = λ t. n (inr (own t)) } in
        let w = small lawful (Start d) (Start d) n1 n1 q in
        let facts = two lawful (Start d) (Start d) n1 n1 q in
        let h = f w (kept lawful (Start d) (Start d) n1 n1 q) (w.thing n0) (w.thing n1) (has_link (shape w) (linked d n0 n1) d n0 n1 refl (has_b lawful (Start d) (Start d) n1 n1 q)) in
        n (inl (only_link d e (subst₂ (Joined rules facts e) (named rules facts n0) (named rules facts n1) (pair_joined rules facts e (w.thing n0) (w.thing n1) h))))

    refute_link_apart : (d e : Directed) → ¬ (Implied k rules (LinkApart d e)) → ¬ (Follows rules (LinkApart d e))
    refute_link_apart d e n f =
        let q : Fine (Start d) (Start e) n1 n1 = record { nj = 0≢1; nl = 0≢1; full_b = λ h. n (inr (inr (inr (inl h)))); full_c = λ h. n (inr (inr (inr (inr h)))); fine = fine } in
        let w = small lawful (Start d) (Start e) n1 n1 q in
        f w (kept lawful (Start d) (Start e) n1 n1 q) (w.thing n0) (w.thing n1)
        (has_link (shape w) (linked d n0 n1) d n0 n1 refl (has_b lawful (Start d) (Start e) n1 n1 q))
        (has_link (shape w) (linked e n0 n1) e n0 n1 refl (has_c lawful (Start d) (Start e) n1 n1 q))
      where
        fine : ¬ (Trouble (Start d) (Start e) n1 n1)
        fine (same_class h) = n (inr (inl h))
        fine (same_pair d' e' p q o h) = n (inl (subst₂ (λ (x y : Directed). Excluded k rules (links x y)) (cc) (cc) h))
        fine (same_end d' e' p q o h) = n (inr (inr (inl (subst₂ (λ (x y : Directed). Excluded k rules (classes (Start (turn x)) (Start (turn y)))) (cc) (cc) h))))
        fine (both_single d' p q o m) = o refl

    refute_single : (d : Directed) → ¬ (Implied k rules (Single d)) → ¬ (Follows rules (Single d))
    refute_single d n f =
        let q : Fine (Start d) (Start d) n1 n2 = record { nj = 0≢1; nl = 0≢2; full_b = λ h. n (inr h); full_c = λ h. n (inr h); fine = fine } in
        let w = small lawful (Start d) (Start d) n1 n2 q in
        1≢2 (w.unique n1 n2 (omega arith) (omega arith) (f w (kept lawful (Start d) (Start d) n1 n2 q) (w.thing n0) (w.thing n1) (w.thing n2)
        (has_link (shape w) (linked d n0 n1) d n0 n1 refl (has_b lawful (Start d) (Start d) n1 n2 q))
        (has_link (shape w) (linked d n0 n2) d n0 n2 refl (has_c lawful (Start d) (Start d) n1 n2 q))))
      where
        fine : ¬ (Trouble (Start d) (Start d) n1 n2)
        fine (same_class h) = n (inr h)
        fine (same_pair d' e' p q o h) = 1≢2 o
        fine (same_end d' e' p q o h) = 1≢2 o
        fine (both_single d' p q o m) = n (inl (subst (λ (x : Directed). Memᴰ (Single x) rules) (cc) m))

    -- what the closures do not say of a rule fails in some world that keeps the rules
    pub refute : (r : Rule) → ¬ (Implied k rules r) → ¬ (Follows rules r)
    refute (Within b c) = refute_within b c
    refute (Apart b c) = refute_apart b c
    refute (LinkWithin d e) = refute_link_within d e
    refute (LinkApart d e) = refute_link_apart d e
    refute (Single d) = refute_single d

    -- a rule follows just where the closures say so
    pub follows : (r : Rule) → Follows rules r ↔ Implied k rules r
    follows r = (λ f. by_cases (implied k rules r) (λ h. h) (λ n. absurd (refute r n f)), implied_follows k rules r)
