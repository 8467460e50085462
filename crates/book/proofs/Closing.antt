-- Tables to which no rule and no link has anything to add hold the whole exclusion closure.
use Rattle.std.proofs.Common.{◌≡◌, List, refl, subst}
use Rattle.bits.proofs.Inheriting.{symmetric_on}
use Rattle.bits.specs.Relations.{Symmetric}
use Rattle.distinct.proofs.Members.{place_of}
use Rattle.book.specs.Growth.{AllDone, ClassOn, Done, EmptyKnown, LinkOn, Sound, Tables}
use Rattle.book.specs.Tables.{HoldsClosure}
use Rattle.theory.specs.Closure.{Exclusion, Excluded, apart, classes, empty_link, link_apart, link_empty, link_narrow, link_swap, link_turn, links, narrow, narrow_end, narrow_start, other_end, swap}
use Rattle.vocabulary.specs.Codes.{basic_below, directed_below}
use Rattle.vocabulary.proofs.Codes.{turn_fits, turn_turn}
use Rattle.vocabulary.specs.Codes.{basic_code, directed_code, turn}
use Rattle.vocabulary.specs.Ranges.{DirectedFits}
use Rattle.vocabulary.specs.declared.basic.Basic.{Basic}
use Rattle.vocabulary.specs.declared.basic.Basic.TheVariants.{Start}
use Rattle.vocabulary.specs.declared.basic.Directed.{Directed}
use Rattle.vocabulary.specs.declared.basic.Directed.TheVariants.{Forward, Backward}
use Rattle.vocabulary.specs.declared.rules.Family.{Family}
use Rattle.vocabulary.specs.declared.rules.Rule.{Rule}
use mathlib.Core.List.{Memᴰ}

module _ (family : Family) (rules : List Rule) (t : Tables) (class-symmetric : Symmetric 2 t.0) (link-symmetric : Symmetric 1 t.1)
    (done : AllDone family rules t) where
  done_rule : {r : Rule} → Memᴰ r rules → Done r t
  done_rule {r} m = let (i, h, e) = place_of m in subst (λ (q : Rule). Done q t) (e r) (done.0 i r h)

  known : (d : Directed) → DirectedFits d → EmptyKnown family d t
  known (Forward l) h = (done.1 l.0 h).0
  known (Backward l) h = (done.1 l.0 h).1

  -- what the tables hold of a pair of the closure; of links, of the turned pair too
  abbrev Held : Exclusion → Type 0
  Held (classes b c) = ClassOn t b c
  Held (links d e) = LinkOn t d e × LinkOn t (turn d) (turn e)

  class_swap : {b c : Basic} → ClassOn t b c → ClassOn t c b
  class_swap {b} {c} o = record { first = o.second; second = o.first; on = symmetric_on class-symmetric (basic_code b) (basic_code c) o.on }

  links_swap : {d e : Directed} → LinkOn t d e → LinkOn t e d
  links_swap {d} {e} o = record { first = o.second; second = o.first; on = symmetric_on link-symmetric (directed_code d) (directed_code e) o.on }

  turned_once : (d e : Directed) → LinkOn t (turn (turn d)) (turn (turn e)) → LinkOn t d e
  turned_once d e o = subst (λ (f : Directed). LinkOn t f e) (turn_turn d) (subst (λ (f : Directed). LinkOn t (turn (turn d)) f) (turn_turn e) o)

  -- an end that is empty, from a start
  ended : (d : Directed) → ClassOn t (Start d) (Start d) → ClassOn t (Start (turn d)) (Start (turn d))
  ended d o =
      (known (turn d) (turn_fits d o.first)).0 (subst (λ (f : Directed). ClassOn t (Start f) (Start f)) (let e : d ≡ turn (turn d) = back d in e) o)
    where
      back : (f : Directed) → f ≡ turn (turn f)
      back (Forward l) = refl
      back (Backward l) = refl

  complete : {e : Exclusion} → Excluded family rules e → Held e
  complete (swap h) = class_swap (complete h)
  complete (link_swap h) = let o = complete h in (links_swap o.0, links_swap o.1)
  complete (link_turn {d = d} {e = e} h) = let o = complete h in (turned_once d e o.1, o.0)
  complete (apart m) = done_rule m
  complete (link_apart m) = done_rule m
  complete (narrow {c = c} m h) = done_rule m c (complete h)
  complete (narrow_start {b = b} m h) = (done_rule m).0 b (complete h)
  complete (narrow_end {b = b} m h) = (done_rule m).1 b (complete h)
  complete (link_narrow {f = f} m h) = let o = complete h in ((done_rule m).2 f o.0, (done_rule m).3 (turn f) o.1)
  complete (other_end {d = d} h) =
      let o = complete h in
      (known d (fits d o.first)).0 o
    where
      fits : (f : Directed) → DirectedFits (turn f) → DirectedFits f
      fits (Forward l) k = k
      fits (Backward l) k = k
  complete (empty_link {d = d} too h) =
      let o = complete h in
      ((known d o.first).2 too o, (known (turn d) (turn_fits d o.first)).2 too (ended d o))
  complete (link_empty {d = d} h) = let o = (complete h).0 in (known d o.first).1 o

  pub holds_closure : Sound family rules t → HoldsClosure family rules t.0 t.1
  holds_closure sound = record {
    of_classes = λ b c hb hc. (
      λ e. sound (classes b c) (record { first = hb; second = hc; on = record { row = basic_below b hb; column = basic_below c hc; set = e } }),
      λ h. (complete h).on.set,
    );
    of_links = λ d e hd he. (
      λ s. sound (links d e) (record { first = hd; second = he; on = record { row = directed_below d hd; column = directed_below e he; set = s } }),
      λ h. (complete h).0.on.set,
    );
    class_range = λ b c h. let o = complete h in (o.first, o.second);
    link_range = λ d e h. let o = (complete h).0 in (o.first, o.second);
  }
