-- What each form of rule adds to the tables is in the closure, and what it leaves is done.
use Rattle.std.proofs.Common.{◌≡◌, ℕ, ◌+◌, ◌<◌, Bool, ◌||◌, List, length, get_or, sym, subst, subst₂, inl, inr, arith, below_more}
use Rattle.bits.specs.Relations.{Inherits, Joins}
use Rattle.book.proofs.Growing.{excluded_link, narrowed, narrowed_link}
use Rattle.book.proofs.Steps.{adds_like, adds_then}
use Rattle.distinct.proofs.Members.{member_at}
use Rattle.book.specs.Growth.{ClassesPass, Done, DoneFirst, EmptyKnown, EmptyKnownBelow, LinkOn, LinksPass, Tables, Went}
use Rattle.std.proofs.lemmas.List.{get_or_default}
use Rattle.std.proofs.lemmas.Bool.{cases_eq}
use Rattle.theory.proofs.Reached.{link_narrow_step, turned_excluded, turned_step}
use Rattle.theory.specs.Reaching.{along}
use Rattle.theory.specs.Closure.{link_apart, link_narrow, narrow_end, narrow_start}
use Rattle.vocabulary.proofs.Codes.{turn_fits}
use Rattle.vocabulary.specs.Codes.{basic_code, directed_code, turn}
use Rattle.vocabulary.specs.Ranges.{DirectedFits}
use Rattle.vocabulary.specs.declared.basic.Basic.TheVariants.{Start}
use Rattle.vocabulary.specs.declared.basic.Directed.{Directed}
use Rattle.vocabulary.specs.declared.basic.Directed.TheVariants.{Forward, Backward}
use Rattle.vocabulary.specs.declared.rules.Family.{Family}
use Rattle.vocabulary.specs.declared.rules.Rule.{Rule}
use Rattle.vocabulary.specs.declared.rules.Rule.TheVariants.{LinkApart, LinkWithin}
use mathlib.Core.List.{Memᴰ}

module _ (d e td te : Directed) (hd : DirectedFits d) (he : DirectedFits e) (dt : td ≡ turn d) (et : te ≡ turn e) where
  -- two calls, for a pair of links apart and for the two turned round
  pub apart_turned : {r q : Bool} {l l' l'' : List ℕ} (b : List ℕ) → Joins 1 (directed_code d) (directed_code e) r l l' → Joins 1 (directed_code td) (directed_code te) q l' l'' →
      Went (λ _ rules. Memᴰ (LinkApart d e) rules) (Done (LinkApart d e)) (r || q) (b, l) (b, l'')
  apart_turned {q = q} {l' = l'} {l'' = l''} b v w =
      adds_then {C = λ t. LinkOn t d e} {D = λ t. LinkOn t (turn d) (turn e)} (λ x y. (x, y))
      (adds_like (λ x m. link_apart m) (λ i. i) (excluded_link d e hd he v b))
      (adds_like (λ x m. turned_excluded d e (link_apart m)) (λ i. i)
      (excluded_link (turn d) (turn e) (turn_fits d hd) (turn_fits e he)
      (subst₂ (λ (f g : Directed). Joins 1 (directed_code f) (directed_code g) q l' l'') dt et w) b))

  -- four calls, for a link within another
  pub within_turned : {r q o p : Bool} {b b' b'' l l' l'' : List ℕ} →
      Inherits 2 (basic_code (Start d)) (basic_code (Start e)) r b b' → Inherits 2 (basic_code (Start td)) (basic_code (Start te)) q b' b'' →
      Inherits 1 (directed_code d) (directed_code e) o l l' → Inherits 1 (directed_code td) (directed_code te) p l' l'' →
      Went (λ _ rules. Memᴰ (LinkWithin d e) rules) (Done (LinkWithin d e)) (((r || q) || o) || p) (b, l) (b'', l'')
  within_turned {q = q} {p = p} {b' = b'} {b'' = b''} {l = l} {l' = l'} {l'' = l''} u v w x =
      adds_then {C = λ t. ClassesPass t (Start d) (Start e) × ClassesPass t (Start (turn d)) (Start (turn e)) × LinksPass t d e}
      {D = λ t. LinksPass t (turn d) (turn e)} (λ i j. (i.0, i.1, i.2, j))
      (adds_then {C = λ t. ClassesPass t (Start d) (Start e) × ClassesPass t (Start (turn d)) (Start (turn e))} {D = λ t. LinksPass t d e}
      (λ i j. (i.0, i.1, j))
      (adds_then {C = λ t. ClassesPass t (Start d) (Start e)} {D = λ t. ClassesPass t (Start (turn d)) (Start (turn e))} (λ i j. (i, j))
      (adds_like (λ y m c h. narrow_start m h) (λ i. i) (narrowed (Start d) (Start e) hd he u l))
      (adds_like (λ y m c h. narrow_end m h) (λ i. i)
      (narrowed (Start (turn d)) (Start (turn e)) (turn_fits d hd) (turn_fits e he)
      (subst₂ (λ (f g : Directed). Inherits 2 (basic_code (Start f)) (basic_code (Start g)) q b' b'') dt et v) l)))
      (adds_like (λ y m f h. link_narrow m h) (λ i. i) (narrowed_link d e hd he w b'')))
      (adds_like (λ y m f h. link_narrow_step (turned_step (along m)) h) (λ i. i)
      (narrowed_link (turn d) (turn e) (turn_fits d hd) (turn_fits e he)
      (subst₂ (λ (f g : Directed). Inherits 1 (directed_code f) (directed_code g) p l' l'') dt et x) b''))

-- ---- every rule in turn

done_more : (rules : List Rule) (i : ℕ) (d : Rule) (t : Tables) → i < length rules → DoneFirst rules i t → Done (get_or rules i d) t → DoneFirst rules (i + 1) t
done_more rules i d t l below here k r h =
    elim (cases_eq k i) [
      | inl e ↦ subst (λ (j : ℕ). Done (get_or rules j r) t) (sym e) (subst (λ (q : Rule). Done q t) (get_or_default rules i d r l) here)
      | inr ne ↦ below k r (omega arith)
    ]

pub done_turn : (rules : List Rule) (i : ℕ) (d : Rule) → i < length rules → {r q : Bool} {s t u : Tables} → Went (λ _ all. all ≡ rules) (DoneFirst rules i) r s t →
    Went (λ _ all. Memᴰ (get_or rules i d) all) (Done (get_or rules i d)) q t u → Went (λ _ all. all ≡ rules) (DoneFirst rules (i + 1)) (r || q) s u
done_turn rules i d l {u = u} v w =
    adds_then {C = DoneFirst rules i} {D = Done (get_or rules i d)} (done_more rules i d u l) v
    (adds_like {C = Done (get_or rules i d)} (λ x e. subst (Memᴰ (get_or rules i d)) (sym e) (member_at rules i d l)) (λ y. y) w)

-- ---- every link in turn

known_more : (family : Family) (i : ℕ) (t : Tables) → EmptyKnownBelow family i t × EmptyKnown family (Forward (record { 0 = i })) t → EmptyKnown family (Backward (record { 0 = i })) t → EmptyKnownBelow family (i + 1) t
known_more family i t below back =
    below_more (λ k. EmptyKnown family (Forward (record { 0 = k })) t × EmptyKnown family (Backward (record { 0 = k })) t) i below.0 (below.1, back)

pub known_turn : (family : Family) (i : ℕ) {r q p : Bool} {s t u v : Tables} → Went (λ f _. f ≡ family) (EmptyKnownBelow family i) r s t →
    Went (λ f _. f ≡ family) (EmptyKnown family (Forward (record { 0 = i }))) q t u → Went (λ f _. f ≡ family) (EmptyKnown family (Backward (record { 0 = i }))) p u v →
    Went (λ f _. f ≡ family) (EmptyKnownBelow family (i + 1)) ((r || q) || p) s v
known_turn family i {v = v} a b c =
    adds_then {C = λ words. EmptyKnownBelow family i words × EmptyKnown family (Forward (record { 0 = i })) words} {D = EmptyKnown family (Backward (record { 0 = i }))}
    (known_more family i v)
    (adds_then {C = EmptyKnownBelow family i} {D = EmptyKnown family (Forward (record { 0 = i }))} (λ x y. (x, y)) a b) c
