-- What a rule makes of an atom, and how two atoms merge, computed by cases: this is what the relations say.
use Rattle.std.proofs.Common.{◌≡◌, ℕ, Bool, true, false, cond, eqb, List, [], ◌∷◌, Some, None, Option, sym, refl, ap, ◌∙◌, subst, arith, eq-eqb}
use Rattle.vocabulary.specs.Equality.{class_same, link_same}
use Rattle.question.specs.Steps.{Made, MergesAs, made_by, merging_classes, merging_links, merging, merges_to}
use Rattle.question.specs.declared.merging.Merger.{Merger}
use Rattle.std.proofs.lemmas.Bool.{cond-true}
use Rattle.std.specs.Option.{option_and_then, option_map}
use Rattle.theory.specs.Rewritings.{about, joining, unify, apply, filled, unify_second, Agrees, Becomes, narrower, starts, ends, links, turned, Merges, classes, pairs}
use Rattle.vocabulary.specs.declared.basic.Basic.TheVariants.{Named, Start}
use Rattle.vocabulary.specs.declared.basic.Directed.TheVariants.{Forward, Backward}
use Rattle.vocabulary.specs.declared.numbers.Class.{Class}
use Rattle.vocabulary.specs.declared.numbers.Link.{Link}
use Rattle.vocabulary.specs.declared.questions.Atom.TheVariants.{IsIn, Joins}
use Rattle.vocabulary.specs.declared.questions.Atom.{Atom}
use Rattle.vocabulary.specs.declared.questions.Term.TheVariants.{Variable, Constant, Open}
use Rattle.vocabulary.specs.declared.questions.Term.{Term}
use Rattle.vocabulary.specs.declared.questions.Unifier.TheVariants.{Trivial}
use Rattle.vocabulary.specs.declared.questions.Unifier.{Unifier}
use Rattle.vocabulary.specs.declared.rules.Rule.TheVariants.{Within, Apart, LinkWithin, LinkApart, Single}
use Rattle.vocabulary.specs.declared.rules.Rule.{Rule}
use mathlib.Core.List.Memᴰ
use mathlib.Core.List.{Memᴰ}

pub some_same : {A : Type 0} {x y : A} → ◌≡◌ {A = Option A} (Some x) (Some y) → x ≡ y
some_same e = cc

pub some_none : {A : Type 0} {x : A} → ◌≡◌ {A = Option A} (Some x) None → ⊥
some_none e = let z : ◌≡◌ {A = ℕ} 0 1 = cc in omega arith

if_some : {A : Type 0} (b : Bool) (o : Option A) (x : A) → cond b o None ≡ Some x → (b ≡ true) × (o ≡ Some x)
if_some true o x e = (refl, e)
if_some false o x e = absurd (some_none (sym e))

-- what `made_by` makes is what a rule makes
pub made_sound : (rules : List Rule) (rule : Rule) (a b : Atom) → Memᴰ rule rules → made_by rule a ≡ Some b → Becomes rules a b
made_sound rules (Within b (Named c)) (IsIn d t) x m e =
    let h = if_some (eqb c.0 d.0) (Some (about b t)) x e in
    subst (λ (y : Atom). Becomes rules (IsIn d t) y) (some_same h.1) (subst (λ (k : Class). Becomes rules (IsIn k t) (about b t)) ((class_same c d).0 h.0) (narrower m))
made_sound rules (Within b (Named c)) (Joins l t u) x m e = absurd (some_none (sym e))
made_sound rules (Within b (Start (Forward k))) (IsIn d t) x m e = absurd (some_none (sym e))
made_sound rules (Within b (Start (Forward k))) (Joins l t (Variable n)) x m e = absurd (some_none (sym (if_some (eqb k.0 l.0) None x e).1))
made_sound rules (Within b (Start (Forward k))) (Joins l t (Constant n)) x m e = absurd (some_none (sym (if_some (eqb k.0 l.0) None x e).1))
made_sound rules (Within b (Start (Forward k))) (Joins l t Open) x m e =
    let h = if_some (eqb k.0 l.0) (Some (about b t)) x e in
    subst (λ (y : Atom). Becomes rules (Joins l t Open) y) (some_same h.1) (subst (λ (j : Link). Becomes rules (Joins j t Open) (about b t)) ((link_same k l).0 h.0) (starts m))
made_sound rules (Within b (Start (Backward k))) (IsIn d t) x m e = absurd (some_none (sym e))
made_sound rules (Within b (Start (Backward k))) (Joins l (Variable n) u) x m e = absurd (some_none (sym (if_some (eqb k.0 l.0) None x e).1))
made_sound rules (Within b (Start (Backward k))) (Joins l (Constant n) u) x m e = absurd (some_none (sym (if_some (eqb k.0 l.0) None x e).1))
made_sound rules (Within b (Start (Backward k))) (Joins l Open u) x m e =
    let h = if_some (eqb k.0 l.0) (Some (about b u)) x e in
    subst (λ (y : Atom). Becomes rules (Joins l Open u) y) (some_same h.1) (subst (λ (j : Link). Becomes rules (Joins j Open u) (about b u)) ((link_same k l).0 h.0) (ends m))
made_sound rules (LinkWithin d (Forward k)) (IsIn c t) x m e = absurd (some_none (sym e))
made_sound rules (LinkWithin d (Forward k)) (Joins l t u) x m e =
    let h = if_some (eqb k.0 l.0) (Some (joining d t u)) x e in
    subst (λ (y : Atom). Becomes rules (Joins l t u) y) (some_same h.1) (subst (λ (j : Link). Becomes rules (Joins j t u) (joining d t u)) ((link_same k l).0 h.0) (links m))
made_sound rules (LinkWithin d (Backward k)) (IsIn c t) x m e = absurd (some_none (sym e))
made_sound rules (LinkWithin d (Backward k)) (Joins l t u) x m e =
    let h = if_some (eqb k.0 l.0) (Some (joining d u t)) x e in
    subst (λ (y : Atom). Becomes rules (Joins l t u) y) (some_same h.1) (subst (λ (j : Link). Becomes rules (Joins j t u) (joining d u t)) ((link_same k l).0 h.0) (turned m))
made_sound rules (Apart b c) a x m e = absurd (some_none (sym e))
made_sound rules (LinkApart d k) a x m e = absurd (some_none (sym e))
made_sound rules (Single d) a x m e = absurd (some_none (sym e))

pub record MadeBy (rules : List Rule) (a b : Atom) : Type 0 where
  pub rule : Rule
  pub stands : Memᴰ rule rules
  pub made : made_by rule a ≡ Some b

itself : {A : Type 0} (n : ℕ) (o : Option A) → cond (eqb n n) o None ≡ o
itself n o = cond-true (eqb n n) o None (eq-eqb n n refl)

pub made_complete : (rules : List Rule) {a b : Atom} → Becomes rules a b → MadeBy rules a b
made_complete rules (narrower {b = b} {c = c} {t = t} m) = record { rule = Within b (Named c); stands = m; made = itself c.0 (Some (about b t)) }
made_complete rules (starts {b = b} {l = l} {t = t} m) = record { rule = Within b (Start (Forward l)); stands = m; made = itself l.0 (Some (about b t)) }
made_complete rules (ends {b = b} {l = l} {t = t} m) = record { rule = Within b (Start (Backward l)); stands = m; made = itself l.0 (Some (about b t)) }
made_complete rules (links {d = d} {l = l} {t = t} {u = u} m) = record { rule = LinkWithin d (Forward l); stands = m; made = itself l.0 (Some (joining d t u)) }
made_complete rules (turned {d = d} {l = l} {t = t} {u = u} m) = record { rule = LinkWithin d (Backward l); stands = m; made = itself l.0 (Some (joining d u t)) }

-- what `merging` says is how atoms merge
first_some : (a : Atom) (o : Option Unifier) (m : Merger) → option_map (λ k. record { atom = a; first = k; second = Trivial }) o ≡ Some m → Agrees o × (m.atom ≡ a) × (merges_to m ≡ apply o)
first_some a None m e = absurd (some_none (sym e))
first_some a (Some k) m e = (tt, sym (ap (λ (g : Merger). g.atom) (some_same e)), sym (ap merges_to (some_same e)))

first_made : (a : Atom) (o : Option Unifier) → Agrees o → (m : Merger) × (option_map (λ k. record { atom = a; first = k; second = Trivial }) o ≡ Some m) × (m.atom ≡ a) × (merges_to m ≡ apply o)
first_made a None h = absurd h
first_made a (Some k) h = (record { atom = a; first = k; second = Trivial }, refl, refl, refl)

-- by what makes the second terms equal after the first
abbrev both_made : Atom → Unifier → Option Unifier → Option Merger
both_made a k o = option_map (λ j. record { atom = a; first = k; second = j }) o

both_some : (a : Atom) (k : Unifier) (o : Option Unifier) (m : Merger) → both_made a k o ≡ Some m → Agrees o × (m.atom ≡ a) × (merges_to m ≡ λ t. apply o (apply (Some k) t))
both_some a k None m e = absurd (some_none (sym e))
both_some a k (Some j) m e = (tt, sym (ap (λ (g : Merger). g.atom) (some_same e)), sym (ap merges_to (some_same e)))

both_of : (a : Atom) (k : Unifier) (o : Option Unifier) → Agrees o → (m : Merger) × (both_made a k o ≡ Some m) × (m.atom ≡ a) × (merges_to m ≡ λ t. apply o (apply (Some k) t))
both_of a k None h = absurd h
both_of a k (Some j) h = (record { atom = a; first = k; second = j }, refl, refl, refl)

second_some : (a : Atom) (u w : Term) (o : Option Unifier) (m : Merger) → option_and_then (λ k. both_made a k (unify (apply (Some k) u) (apply (Some k) w))) o ≡ Some m →
    Agrees o × Agrees (unify (apply o u) (apply o w)) × (m.atom ≡ a) × (merges_to m ≡ λ t. apply (unify (apply o u) (apply o w)) (apply o t))
second_some a u w None m e = absurd (some_none (sym e))
second_some a u w (Some k) m e =
    let (j, at, all) = both_some a k (unify (apply (Some k) u) (apply (Some k) w)) m e in
    (tt, j, at, all)

second_made : (a : Atom) (u w : Term) (o : Option Unifier) → Agrees o → Agrees (unify (apply o u) (apply o w)) →
    (m : Merger) × (option_and_then (λ k. both_made a k (unify (apply (Some k) u) (apply (Some k) w))) o ≡ Some m) × (m.atom ≡ a) × (merges_to m ≡ λ t. apply (unify (apply o u) (apply o w)) (apply o t))
second_made a u w None h i = absurd h
second_made a u w (Some k) h i = both_of a k (unify (apply (Some k) u) (apply (Some k) w)) i

-- the same merger in other words
merges_like : (a b : Atom) {c d : Atom} {f g : Term → Term} → c ≡ d → f ≡ g → Merges a b d g → Merges a b c f
merges_like a b {d = d} {f = f} e h m = subst (λ (x : Atom). Merges a b x f) (sym e) (subst (λ (k : Term → Term). Merges a b d k) (sym h) m)

pub merging_sound : (a b : Atom) (m : Merger) → merging a b ≡ Some m → Merges a b m.atom (merges_to m)
unfolding merging_links
merging_sound (IsIn c t) (IsIn d u) m e =
    let h = if_some (eqb c.0 d.0) (merging_classes c t u) m e in
    let (k, at, all) = first_some (IsIn c (filled t u)) (unify t u) m h.1 in
    merges_like (IsIn c t) (IsIn d u) at all
    (subst (λ (n : Class). Merges (IsIn c t) (IsIn n u) (IsIn c (filled t u)) (apply (unify t u))) ((class_same c d).0 h.0) (classes k))
merging_sound (IsIn c t) (Joins l u v) m e = absurd (some_none (sym e))
merging_sound (Joins l t u) (IsIn c v) m e = absurd (some_none (sym e))
merging_sound (Joins l t u) (Joins n v w) m e =
    let h = if_some (eqb l.0 n.0) (merging_links l t u v w) m e in
    let (k, j, at, all) = second_some (Joins l (filled t v) (filled u w)) u w (unify t v) m h.1 in
    merges_like (Joins l t u) (Joins n v w) at all
    (subst (λ (g : Link). Merges (Joins l t u) (Joins g v w) (Joins l (filled t v) (filled u w)) (λ y. apply (unify_second t v u w) (apply (unify t v) y))) ((link_same l n).0 h.0) (pairs k j))

pub record MergingIs (a b c : Atom) (f : Term → Term) : Type 0 where
  pub merger : Merger
  pub made : merging a b ≡ Some merger
  pub atom : merger.atom ≡ c
  pub all : merges_to merger ≡ f

pub merging_complete : {a b c : Atom} {f : Term → Term} → Merges a b c f → MergingIs a b c f
unfolding merging_links
merging_complete (classes {c = c} {t = t} {t' = u} h) =
    let (m, e, at, all) = first_made (IsIn c (filled t u)) (unify t u) h in
    record { merger = m; made = itself c.0 (merging_classes c t u) ∙ e; atom = at; all = all }
merging_complete (pairs {l = l} {t = t} {t' = v} {u = u} {u' = w} h k) =
    let (m, e, at, all) = second_made (Joins l (filled t v) (filled u w)) u w (unify t v) h k in
    record { merger = m; made = itself l.0 (merging_links l t u v w) ∙ e; atom = at; all = all }

-- the two computed answers are all there is
pub made_all : (rule : Rule) (a : Atom) (o : Option Atom) → o ≡ made_by rule a → Made rule a o
made_all rule a o e b = (
  λ s. made_sound (rule ∷ []) rule a b (Memᴰ.head refl) (sym e ∙ s),
  λ k. let h = made_complete (rule ∷ []) k in e ∙ ap (λ (r : Rule). made_by r a) (sym (Memᴰ.eq_of_singleton h.stands)) ∙ h.made,
)

pub merges_all : (a b : Atom) (o : Option Merger) → o ≡ merging a b → MergesAs a b o
merges_all a b o e = record {
  sound = λ m s. merging_sound a b m (sym e ∙ s);
  complete = λ c f k. let h = merging_complete k in (h.merger, e ∙ h.made, h.atom, h.all);
}
