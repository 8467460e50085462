-- Reaching along the within rules is decided, and what reaches something inherits its exclusions.
use Rattle.std.proofs.Common.{◌≡◌, ℕ, List, [], ◌∷◌, sym, refl, ap, subst, subst₂, ⊎_elim, arith}
use mathlib.Core.List.Memᴰ
use mathlib.Core.List.{Memᴰ}
use native.Mathlib.Decide.{ℕ_discrete, map_dec}
use Rattle.vocabulary.specs.declared.numbers.Class.{Class}
use Rattle.vocabulary.specs.declared.numbers.Link.{Link}
use Rattle.vocabulary.specs.declared.numbers.Name.{Name}
use Rattle.vocabulary.specs.declared.basic.Directed.{Directed}
use Rattle.vocabulary.specs.declared.basic.Directed.TheVariants.{Forward, Backward}
use Rattle.vocabulary.specs.declared.basic.Basic.{Basic}
use Rattle.vocabulary.specs.declared.basic.Basic.TheVariants.{Named, Start}
use Rattle.vocabulary.specs.declared.rules.Family.{Family}
use Rattle.vocabulary.specs.declared.rules.Rule.{Rule}
use Rattle.vocabulary.specs.declared.rules.Rule.TheVariants.{Within, Apart, LinkWithin, LinkApart, Single}
use Rattle.vocabulary.proofs.Codes.{turn_turn}
use Rattle.vocabulary.specs.Codes.{turn}
use Rattle.theory.specs.Closure.{classes, links, Excluded, swap, link_swap, link_turn, narrow, narrow_start, narrow_end, link_narrow}
use Rattle.theory.specs.Reaching.{LinkStep, along, back, Step, by_rule, by_link, Reaches, here, then}
use Rattle.std.specs.List.{flat_map}
use Rattle.theory.proofs.Lists.{joined_in, joined_out, one_of_two}
use Rattle.theory.proofs.Decisions.{some}
use Rattle.theory.proofs.Ways.{Edge, edge, decided, reach_way, way_reach, way_some}

-- equality of the numbers' wrappers, the directed links and the basic classes is decided
pub same_class : (a b : Class) → Dec (a ≡ b)
same_class a b = map_dec (λ (p : a.0 ≡ b.0). λ i. record { 0 = p i }) (λ p. ap (λ (x : Class). x.0) p) (ℕ_discrete a.0 b.0)

pub same_link : (a b : Link) → Dec (a ≡ b)
same_link a b = map_dec (λ (p : a.0 ≡ b.0). λ i. record { 0 = p i }) (λ p. ap (λ (x : Link). x.0) p) (ℕ_discrete a.0 b.0)

pub equal_names : (a b : Name) → a.0 ≡ b.0 → a ≡ b
equal_names a b p = λ i. record { 0 = p i }

pub equal_numbers : (a b : Name) → a ≡ b → a.0 ≡ b.0
equal_numbers a b p = ap (λ (x : Name). x.0) p

pub same_name : (a b : Name) → Dec (a ≡ b)
same_name a b = map_dec (equal_names a b) (equal_numbers a b) (ℕ_discrete a.0 b.0)

pub same_directed : (d e : Directed) → Dec (d ≡ e)
same_directed (Forward l) (Forward m) = map_dec (λ p. ap Forward p) (λ p. cc) (same_link l m)
same_directed (Forward l) (Backward m) = no (λ p. let z : ◌≡◌ {A = ℕ} 0 1 = cc in omega arith)
same_directed (Backward l) (Forward m) = no (λ p. let z : ◌≡◌ {A = ℕ} 0 1 = cc in omega arith)
same_directed (Backward l) (Backward m) = map_dec (λ p. ap Backward p) (λ p. cc) (same_link l m)

pub same_basic : (b c : Basic) → Dec (b ≡ c)
same_basic (Named l) (Named m) = map_dec (λ p. ap Named p) (λ p. cc) (same_class l m)
same_basic (Named l) (Start m) = no (λ p. let z : ◌≡◌ {A = ℕ} 0 1 = cc in omega arith)
same_basic (Start l) (Named m) = no (λ p. let z : ◌≡◌ {A = ℕ} 0 1 = cc in omega arith)
same_basic (Start l) (Start m) = map_dec (λ p. ap Start p) (λ p. cc) (same_directed l m)

is_single : (d : Directed) (r : Rule) → Dec (Single d ≡ r)
is_single d (Within b c) = no (λ p. let z : ◌≡◌ {A = ℕ} 0 1 = cc in omega arith)
is_single d (Apart b c) = no (λ p. let z : ◌≡◌ {A = ℕ} 0 1 = cc in omega arith)
is_single d (LinkWithin e f) = no (λ p. let z : ◌≡◌ {A = ℕ} 0 1 = cc in omega arith)
is_single d (LinkApart e f) = no (λ p. let z : ◌≡◌ {A = ℕ} 0 1 = cc in omega arith)
is_single d (Single e) = map_dec (λ p. ap Single p) (λ p. cc) (same_directed d e)

pub member : {A : Type 0} (a : A) → ((x : A) → Dec (a ≡ x)) → (xs : List A) → Dec (Memᴰ a xs)
member a f xs = map_dec (λ t. subst (λ x. Memᴰ x xs) (sym t.2) t.1) (λ m. (a, m, refl)) (some (λ x. a ≡ x) f xs)

pub single : (d : Directed) (rules : List Rule) → Dec (Memᴰ (Single d) rules)
single d rules = member (Single d) (is_single d) rules

link_edges : Rule → List (Edge Directed)
link_edges (Within b c) = []
link_edges (Apart b c) = []
link_edges (LinkWithin d e) = edge d e ∷ (edge (turn d) (turn e) ∷ [])
link_edges (LinkApart d e) = []
link_edges (Single d) = []

edges : Rule → List (Edge Basic)
edges (Within b c) = edge b c ∷ []
edges (Apart b c) = []
edges (LinkWithin d e) = edge (Start d) (Start e) ∷ (edge (Start (turn d)) (Start (turn e)) ∷ [])
edges (LinkApart d e) = []
edges (Single d) = []

pub along_turned : {rules : List Rule} (d e : Directed) → Memᴰ (LinkWithin d e) rules → LinkStep rules (turn d) (turn e)
along_turned (Forward l) (Forward k) m = back m
along_turned (Forward l) (Backward k) m = back m
along_turned (Backward l) (Forward k) m = back m
along_turned (Backward l) (Backward k) m = back m

of_two : {A : Type 0} (P : A → Type 0) {x a b : A} → Memᴰ x (a ∷ (b ∷ [])) → P a → P b → P x
of_two P m p r = ⊎_elim (λ e. subst P (sym e) p) (λ e. subst P (sym e) r) (one_of_two m)

module _ (rules : List Rule) where
  link_edge_step : (e : Edge Directed) (r : Rule) → Memᴰ r rules → Memᴰ e (link_edges r) → LinkStep rules e.from e.to
  unfolding link_edges
  link_edge_step e (Within b c) m k = absurd (Memᴰ.not-nil k)
  link_edge_step e (Apart b c) m k = absurd (Memᴰ.not-nil k)
  link_edge_step e (LinkWithin d f) m k = of_two (λ (x : Edge Directed). LinkStep rules x.from x.to) k (along m) (along_turned d f m)
  link_edge_step e (LinkApart d f) m k = absurd (Memᴰ.not-nil k)
  link_edge_step e (Single d) m k = absurd (Memᴰ.not-nil k)

  edge_step : (e : Edge Basic) (r : Rule) → Memᴰ r rules → Memᴰ e (edges r) → Step rules e.from e.to
  unfolding edges
  edge_step e (Within b c) m k = subst (λ (x : Edge Basic). Step rules x.from x.to) (sym (Memᴰ.eq_of_singleton k)) (by_rule m)
  edge_step e (Apart b c) m k = absurd (Memᴰ.not-nil k)
  edge_step e (LinkWithin d f) m k = of_two (λ (x : Edge Basic). Step rules x.from x.to) k (by_link (along m)) (by_link (along_turned d f m))
  edge_step e (LinkApart d f) m k = absurd (Memᴰ.not-nil k)
  edge_step e (Single d) m k = absurd (Memᴰ.not-nil k)

  link_step_edge : (d e : Directed) → LinkStep rules d e → Memᴰ (edge d e) (flat_map link_edges rules)
  unfolding link_edges
  link_step_edge d e (along m) = joined_in link_edges m (Memᴰ.head refl)
  link_step_edge d e (back m) = joined_in link_edges m (Memᴰ.tail (Memᴰ.head (λ i. edge (sym (turn_turn d) i) (sym (turn_turn e) i))))

  step_edge : (b c : Basic) → Step rules b c → Memᴰ (edge b c) (flat_map edges rules)
  unfolding edges
  step_edge b c (by_rule m) = joined_in edges m (Memᴰ.head refl)
  step_edge b c (by_link (along m)) = joined_in edges m (Memᴰ.head refl)
  step_edge b c (by_link {d = d} {e = e} (back m)) = joined_in edges m (Memᴰ.tail (Memᴰ.head (λ i. edge (Start (sym (turn_turn d) i)) (Start (sym (turn_turn e) i)))))

  -- the edges of the two relations
  pub link_steps : List (Edge Directed)
  link_steps = flat_map link_edges rules

  pub steps : List (Edge Basic)
  steps = flat_map edges rules

  pub link_step_in : (d e : Directed) → LinkStep rules d e → Memᴰ (edge d e) link_steps
  unfolding link_steps
  link_step_in = link_step_edge

  pub link_step_out : (e : Edge Directed) → Memᴰ e link_steps → LinkStep rules e.from e.to
  unfolding link_steps
  link_step_out e m = let t = joined_out link_edges rules m in link_edge_step e t.0 t.1 t.2

  pub step_in : (b c : Basic) → Step rules b c → Memᴰ (edge b c) steps
  unfolding steps
  step_in = step_edge

  pub step_out : (e : Edge Basic) → Memᴰ e steps → Step rules e.from e.to
  unfolding steps
  step_out e m = let t = joined_out edges rules m in edge_step e t.0 t.1 t.2

  -- reachability is decided
  pub links_reached : (d e : Directed) → Dec (Reaches (LinkStep rules) d e)
  links_reached d e = map_dec (way_reach (LinkStep rules) link_steps link_step_out) (reach_way (LinkStep rules) link_steps link_step_in) (decided same_directed link_steps d e)

  pub reached : (b c : Basic) → Dec (Reaches (Step rules) b c)
  reached b c = map_dec (way_reach (Step rules) steps step_out) (reach_way (Step rules) steps step_in) (decided same_basic steps b c)

  pub links_reached_some : (d : Directed) (P : Directed → Type 0) → ((e : Directed) → Dec (P e)) → Dec ((e : Directed) × Reaches (LinkStep rules) d e × P e)
  links_reached_some d P f = map_dec
      (λ t. (t.0, way_reach (LinkStep rules) link_steps link_step_out t.1, t.2))
      (λ t. (t.0, reach_way (LinkStep rules) link_steps link_step_in t.1, t.2))
      (way_some same_directed link_steps d P f)

  pub reached_some : (b : Basic) (P : Basic → Type 0) → ((c : Basic) → Dec (P c)) → Dec ((c : Basic) × Reaches (Step rules) b c × P c)
  reached_some b P f = map_dec
      (λ t. (t.0, way_reach (Step rules) steps step_out t.1, t.2))
      (λ t. (t.0, reach_way (Step rules) steps step_in t.1, t.2))
      (way_some same_basic steps b P f)

pub beyond : {A : Type 0} {R : A → A → Type 0} {a b c : A} → Reaches R a b → Reaches R b c → Reaches R a c
beyond here q = q
beyond (then s r) q = then s (beyond r q)

pub once : {A : Type 0} {R : A → A → Type 0} {a b : A} → R a b → Reaches R a b
once s = then s here

pub turned_step : {rules : List Rule} {d e : Directed} → LinkStep rules d e → LinkStep rules (turn d) (turn e)
turned_step (along {d = d} {e = e} m) = along_turned d e m
turned_step (back m) = along m

pub turned_reach : {rules : List Rule} {d e : Directed} → Reaches (LinkStep rules) d e → Reaches (LinkStep rules) (turn d) (turn e)
turned_reach here = here
turned_reach (then s r) = then (turned_step s) (turned_reach r)

pub start_reach : {rules : List Rule} {d e : Directed} → Reaches (LinkStep rules) d e → Reaches (Step rules) (Start d) (Start e)
start_reach here = here
start_reach (then s r) = then (by_link s) (start_reach r)

-- exclusion goes down to what reaches
-- what is one step narrower inherits exclusions
pub turned_excluded : {k : Family} {rules : List Rule} (d e : Directed) → Excluded k rules (links d e) → Excluded k rules (links (turn d) (turn e))
turned_excluded {k} {rules} d e h = link_turn (subst₂ (λ (x y : Directed). Excluded k rules (links x y)) (sym (turn_turn d)) (sym (turn_turn e)) h)

pub link_narrow_step : {k : Family} {rules : List Rule} {a b c : Directed} → LinkStep rules a b → Excluded k rules (links b c) → Excluded k rules (links a c)
link_narrow_step (along m) h = link_narrow m h
link_narrow_step {c = c} (back {d = d} {e = e} m) h = link_turn (link_narrow m (turned_excluded e c h))

pub narrow_step : {k : Family} {rules : List Rule} {a b c : Basic} → Step rules a b → Excluded k rules (classes b c) → Excluded k rules (classes a c)
narrow_step (by_rule m) h = narrow m h
narrow_step (by_link (along m)) h = narrow_start m h
narrow_step {k} {rules} {c = c} (by_link (back {d = d} {e = e} m)) h =
    subst (λ (x : Directed). Excluded k rules (classes (Start x) c)) (turn_turn d)
    (narrow_end m (subst (λ (x : Directed). Excluded k rules (classes (Start x) c)) (sym (turn_turn e)) h))

pub narrowed : {k : Family} {rules : List Rule} {a b c : Basic} → Reaches (Step rules) a b → Excluded k rules (classes b c) → Excluded k rules (classes a c)
narrowed here e = e
narrowed (then s r) e = narrow_step s (narrowed r e)

pub narrowed_both : {k : Family} {rules : List Rule} {a b c d : Basic} → Reaches (Step rules) a b → Reaches (Step rules) c d → Excluded k rules (classes b d) → Excluded k rules (classes a c)
narrowed_both r s e = swap (narrowed s (swap (narrowed r e)))

pub links_narrowed : {k : Family} {rules : List Rule} {a b c : Directed} → Reaches (LinkStep rules) a b → Excluded k rules (links b c) → Excluded k rules (links a c)
links_narrowed here e = e
links_narrowed (then s r) e = link_narrow_step s (links_narrowed r e)

pub links_narrowed_both : {k : Family} {rules : List Rule} {a b c d : Directed} → Reaches (LinkStep rules) a b → Reaches (LinkStep rules) c d → Excluded k rules (links b d) → Excluded k rules (links a c)
links_narrowed_both r s e = link_swap (links_narrowed s (link_swap (links_narrowed r e)))
