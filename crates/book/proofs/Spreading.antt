-- Marks that spread along the within rules.
use Rattle.std.proofs.Common.{◌≡◌, ℕ, ◌+◌, ◌*◌, ◌<◌, Bool, true, false, ◌||◌, List, length, get_or, Decides, sym, refl, ap, ◌∙◌, subst, subst₂, inl, inr, arith}
use Rattle.bits.proofs.Counting.{marked_le, marked_lt}
use Rattle.bits.specs.Words.{Marked, bit}
use Rattle.book.proofs.Steps.{adds_like, adds_then}
use Rattle.distinct.proofs.Members.{member_at, place_of}
use Rattle.book.specs.Reach.{Led, LedBy, LedFirst, NodeFits, NodeOn, NodeStep, ReachedBy, Settled, Spreads, class_step, link_step, node_code}
use Rattle.book.specs.declared.reach.Node.{Node}
use Rattle.book.specs.declared.reach.Node.TheVariants.{Class, Link}
use Rattle.std.proofs.lemmas.List.{get_or_default}
use Rattle.std.proofs.lemmas.Bool.{cases_eq, true≢false}
use Rattle.theory.proofs.Reached.{beyond, once, turned_step}
use Rattle.theory.specs.Reaching.{LinkStep, Reaches, Step, along, back, by_link, by_rule, here, then}
use Rattle.vocabulary.specs.Codes.{basic_below, directed_below}
use Rattle.vocabulary.proofs.Codes.{basic_same, directed_same, turn_turn}
use Rattle.vocabulary.specs.Codes.{turn}
use Rattle.vocabulary.specs.declared.basic.Basic.{Basic}
use Rattle.vocabulary.specs.declared.basic.Basic.TheVariants.{Start}
use Rattle.vocabulary.specs.declared.basic.Directed.{Directed}
use Rattle.vocabulary.specs.declared.rules.Rule.{Rule}
use Rattle.vocabulary.specs.declared.rules.Rule.TheVariants.{LinkWithin}
use mathlib.Core.List.{Memᴰ}

pub node_below : (n : Node) → NodeFits n → node_code n < 192
node_below (Class b) h = omega (arith, basic_below b h)
node_below (Link d) h = omega (arith, directed_below d h)

pub node_same : (m n : Node) → NodeFits m → NodeFits n → node_code m ≡ node_code n → m ≡ n
node_same (Class b) (Class c) h k e = ap Class (basic_same b c h k e)
node_same (Class b) (Link d) h k e = absurd (omega (arith, basic_below b h))
node_same (Link d) (Class b) h k e = absurd (omega (arith, basic_below b k))
node_same (Link d) (Link e) h k s = ap Link (directed_same d e h k (omega arith))

-- one mark is set
module _ (to : Node) (s t : List ℕ) (fits : NodeFits to) (size : length s ≡ 3) (m : Marked (node_code to) s t) where
  inside : node_code to < 64 * length s
  inside = omega (arith, node_below to fits)

  pub marked_more : (n : Node) → NodeOn s n → NodeOn t n
  marked_more n h =
      elim (cases_eq (node_code n) (node_code to)) [
        | inl e ↦ record { fits = h.fits; on = rw e (m.here inside) }
        | inr ne ↦ record { fits = h.fits; on = m.others (node_code n) ne ∙ h.on }
      ]

  pub marked_only : (P : Node → Type 0) → P to → ((n : Node) → NodeOn s n → P n) → (n : Node) → NodeOn t n → P n
  marked_only P p old n h =
      elim (cases_eq (node_code n) (node_code to)) [
        | inl e ↦ subst P (sym (node_same n to h.fits fits e)) p
        | inr ne ↦ old n (record { fits = h.fits; on = sym (m.others (node_code n) ne) ∙ h.on })
      ]

  pub lead_one : (from : Node) {C : List ℕ → Type 0} → NodeOn s from → bit s (node_code to) ≡ false → Spreads (λ rules. NodeStep rules from to) C true s t
  lead_one from o off = record {
    extends = record {
      more = marked_more;
      sound = λ x step old. marked_only (ReachedBy x) (beyond (old from o) (once step)) old;
    };
    at_most = marked_le m;
    added = λ _. marked_lt m inside off;
    idle = λ e. absurd (true≢false e);
  }

-- ---- the rules in turn

-- four calls, for a link within another
module _ (d e td te : Directed) (dt : td ≡ turn d) (et : te ≡ turn e) where
  pub led_turned : {r q o p : Bool} {s t u v w : List ℕ} → Spreads (λ rules. NodeStep rules (Class (Start d)) (Class (Start e))) (Led (Class (Start d)) (Class (Start e))) r s t →
      Spreads (λ rules. NodeStep rules (Class (Start td)) (Class (Start te))) (Led (Class (Start td)) (Class (Start te))) q t u →
      Spreads (λ rules. NodeStep rules (Link d) (Link e)) (Led (Link d) (Link e)) o u v →
      Spreads (λ rules. NodeStep rules (Link td) (Link te)) (Led (Link td) (Link te)) p v w →
      Spreads (λ rules. Memᴰ (LinkWithin d e) rules) (LedBy (LinkWithin d e)) (((r || q) || o) || p) s w
  led_turned {r} {q} {o} {p} {s} {t} {u} {v} {w} a b c x =
      adds_then {C = λ marks. Led (Class (Start d)) (Class (Start e)) marks × Led (Class (Start (turn d))) (Class (Start (turn e))) marks × Led (Link d) (Link e) marks}
      {D = Led (Link (turn d)) (Link (turn e))} (λ i j. (i.0, i.1, i.2, j))
      (adds_then {C = λ marks. Led (Class (Start d)) (Class (Start e)) marks × Led (Class (Start (turn d))) (Class (Start (turn e))) marks} {D = Led (Link d) (Link e)} (λ i j. (i.0, i.1, j))
      (adds_then {C = Led (Class (Start d)) (Class (Start e))} {D = Led (Class (Start (turn d))) (Class (Start (turn e)))} (λ i j. (i, j))
      (adds_like {C = Led (Class (Start d)) (Class (Start e))} (λ y m. class_step (by_link (along m))) (λ i. i) a)
      (adds_like {C = Led (Class (Start (turn d))) (Class (Start (turn e)))} (λ y m. class_step (by_link (turned_step (along m)))) (λ i. i)
      (subst₂ (λ (f g : Directed). Spreads (λ rules. NodeStep rules (Class (Start f)) (Class (Start g))) (Led (Class (Start f)) (Class (Start g))) q t u) dt et b)))
      (adds_like {C = Led (Link d) (Link e)} (λ y m. link_step (along m)) (λ i. i) c))
      (adds_like {C = Led (Link (turn d)) (Link (turn e))} (λ y m. link_step (turned_step (along m))) (λ i. i)
      (subst₂ (λ (f g : Directed). Spreads (λ rules. NodeStep rules (Link f) (Link g)) (Led (Link f) (Link g)) p v w) dt et x))

led_more : (rules : List Rule) (i : ℕ) (d : Rule) (t : List ℕ) → i < length rules → LedFirst rules i t → LedBy (get_or rules i d) t → LedFirst rules (i + 1) t
led_more rules i d t l below at k r h =
    elim (cases_eq k i) [
      | inl e ↦ subst (λ (j : ℕ). LedBy (get_or rules j r) t) (sym e) (subst (λ (q : Rule). LedBy q t) (get_or_default rules i d r l) at)
      | inr ne ↦ below k r (omega arith)
    ]

pub led_turn : (rules : List Rule) (i : ℕ) (d : Rule) → i < length rules → {r q : Bool} {s t u : List ℕ} → Spreads (λ all. all ≡ rules) (LedFirst rules i) r s t →
    Spreads (λ all. Memᴰ (get_or rules i d) all) (LedBy (get_or rules i d)) q t u → Spreads (λ all. all ≡ rules) (LedFirst rules (i + 1)) (r || q) s u
led_turn rules i d l {u = u} v w =
    adds_then {C = LedFirst rules i} {D = LedBy (get_or rules i d)} (led_more rules i d u l) v
    (adds_like {C = LedBy (get_or rules i d)} (λ y e. subst (Memᴰ (get_or rules i d)) (sym e) (member_at rules i d l)) (λ x. x) w)

-- ---- marks that no rule leads on from

module _ (rules : List Rule) (marks : List ℕ) (done : LedFirst rules (length rules) marks) where
  led : {r : Rule} → Memᴰ r rules → LedBy r marks
  led {r} m = let (i, h, e) = place_of m in subst (λ (q : Rule). LedBy q marks) (e r) (done i r h)

  -- a step speaks of a rule, or of one with both links turned round
  turned_led : (d e : Directed) → (P : Directed → Node) → Led (P (turn (turn d))) (P (turn (turn e))) marks → Led (P d) (P e) marks
  turned_led d e P h = subst (λ (f : Directed). Led (P d) (P f) marks) (turn_turn e) (subst (λ (f : Directed). Led (P f) (P (turn (turn e))) marks) (turn_turn d) h)

  one_step : {m n : Node} → NodeStep rules m n → NodeOn marks m → NodeOn marks n
  one_step (class_step (by_rule m)) h = led m h
  one_step (class_step (by_link (along m))) h = (led m).0 h
  one_step (class_step (by_link (back {d = d} {e = e} m))) h = turned_led d e (λ f. Class (Start f)) (led m).1 h
  one_step (link_step (along m)) h = (led m).2 h
  one_step (link_step (back {d = d} {e = e} m)) h = turned_led d e Link (led m).3 h

  pub all_steps : {m n : Node} → Reaches (NodeStep rules) m n → NodeOn marks m → NodeOn marks n
  all_steps here h = h
  all_steps (then s r) h = all_steps r (one_step s h)

-- ---- nodes are basic classes and links apart

pub class_reaches : {rules : List Rule} {b c : Basic} → Reaches (Step rules) b c → Reaches (NodeStep rules) (Class b) (Class c)
class_reaches here = here
class_reaches (then s r) = then (class_step s) (class_reaches r)

pub link_reaches : {rules : List Rule} {d e : Directed} → Reaches (LinkStep rules) d e → Reaches (NodeStep rules) (Link d) (Link e)
link_reaches here = here
link_reaches (then s r) = then (link_step s) (link_reaches r)

-- what a node reaches, of its own kind
abbrev Reached : List Rule → Node → Node → Type 0
Reached rules (Class b) (Class c) = Reaches (Step rules) b c
Reached rules (Class b) (Link e) = ⊥
Reached rules (Link d) (Class c) = ⊥
Reached rules (Link d) (Link e) = Reaches (LinkStep rules) d e

reached_on : {rules : List Rule} {l m : Node} (n : Node) → NodeStep rules l m → Reached rules m n → Reached rules l n
reached_on (Class c) (class_step s) r = then s r
reached_on (Link e) (class_step s) r = r
reached_on (Class c) (link_step s) r = r
reached_on (Link e) (link_step s) r = then s r

reached_here : (rules : List Rule) (n : Node) → Reached rules n n
reached_here rules (Class b) = here
reached_here rules (Link d) = here

pub own_kind : {rules : List Rule} {m n : Node} → Reaches (NodeStep rules) m n → Reached rules m n
own_kind {rules} {m} here = reached_here rules m
own_kind {n = n} (then s r) = reached_on n s (own_kind r)

-- ---- from one mark, all that is reached

pub settled_tells : (rules : List Rule) (from to : Node) (s t : List ℕ) → NodeFits to → NodeOn s from → ((n : Node) → NodeOn s n → n ≡ from) → Settled rules s t →
    (r : Bool) → r ≡ bit t (node_code to) → Decides r (Reaches (NodeStep rules) from to)
settled_tells rules from to s t fits first alone w r e = (
  λ yes-it. w.0.sound (rules, from) refl (λ n o. subst (Reaches (NodeStep rules) from) (sym (alone n o)) here) to (record { fits = fits; on = sym e ∙ yes-it }),
  λ h. e ∙ (all_steps rules t w.1 h (w.0.more from first)).on,
)
