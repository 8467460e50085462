-- A row that is true of a rewriting is true of the question, wherever the rules are kept.
use Rattle.std.proofs.Common.{ℕ, List, map}
use Rattle.std.specs.List.{AllByRecursion}
use Rattle.theory.proofs.Lists.{each, all_unmap, matched_unmap}
use Rattle.theory.proofs.Terms.{Reflects, holds_unmap}
use Rattle.theory.proofs.Tidying.{tidy_back}
use Rattle.theory.proofs.Unifiers.{proper, PullsBack, apply_pulls_back, both_pull_back, unify_equal, apply_filled, met, one_meets, first_meets, second_meets}
use Rattle.theory.specs.Questions.{Query, Serves, Holds, True}
use Rattle.theory.specs.Rewritings.{about, joining, Becomes, narrower, starts, ends, links, turned, unify, apply, filled, unify_second, Merges, classes, pairs, Replaced, here, there, Without, first, later, Merged, merged, beyond, OneStep, replaces, merges, Rewriting, itself, onward}
use Rattle.theory.specs.Tidying.{on_terms}
use Rattle.theory.specs.Worlds.{Shape, Pair, In, Keeps}
use Rattle.vocabulary.specs.declared.basic.Basic.{Basic}
use Rattle.vocabulary.specs.declared.basic.Basic.TheVariants.{Named, Start}
use Rattle.vocabulary.specs.declared.basic.Directed.{Directed}
use Rattle.vocabulary.specs.declared.basic.Directed.TheVariants.{Forward, Backward}
use Rattle.vocabulary.specs.declared.numbers.Name.{Name}
use Rattle.vocabulary.specs.declared.questions.Atom.{Atom}
use Rattle.vocabulary.specs.declared.questions.Term.{Term}
use Rattle.vocabulary.specs.declared.rules.Rule.{Rule}

-- what the two kinds of atoms say: t serves for a member of the basic class, t and u serve for a pair of the link
about_member : (s : Shape) (v : ℕ → s.Carrier) (b : Basic) (t : Term) → Holds s v (about b t) → (x : s.Carrier) × Serves s.thing v t x × In s b x
about_member s v (Named c) t h = h
about_member s v (Start (Forward l)) t h = (h.0, h.2, (h.1, h.4))
about_member s v (Start (Backward l)) t h = (h.1, h.3, (h.0, h.4))

joining_pair : (s : Shape) (v : ℕ → s.Carrier) (d : Directed) (t u : Term) → Holds s v (joining d t u) → (x : s.Carrier) × (y : s.Carrier) × Serves s.thing v t x × Serves s.thing v u y × Pair s d x y
joining_pair s v (Forward l) t u h = h
joining_pair s v (Backward l) t u h = (h.1, h.0, h.3, h.2, h.4)

-- what holds of the atom that a rule gives held of the atom before
becomes_back : (s : Shape) (rules : List Rule) → AllByRecursion (Keeps s) rules → (v : ℕ → s.Carrier) (a b : Atom) → Becomes rules a b → Holds s v b → Holds s v a
becomes_back s rules keeps v a b (narrower {b = k} {c = c} {t = t} m) h =
    let g = about_member s v k t h in
    (g.0, g.1, each (Keeps s) keeps m g.0 g.2)
becomes_back s rules keeps v a b (starts {b = k} {l = l} {t = t} m) h =
    let g = about_member s v k t h in
    let p = each (Keeps s) keeps m g.0 g.2 in
    (g.0, p.0, g.1, tt, p.1)
becomes_back s rules keeps v a b (ends {b = k} {l = l} {t = t} m) h =
    let g = about_member s v k t h in
    let p = each (Keeps s) keeps m g.0 g.2 in
    (p.0, g.0, tt, g.1, p.1)
becomes_back s rules keeps v a b (links {d = d} {l = l} {t = t} {u = u} m) h =
    let g = joining_pair s v d t u h in
    (g.0, g.1, g.2, g.3, each (Keeps s) keeps m g.0 g.1 g.4)
becomes_back s rules keeps v a b (turned {d = d} {l = l} {t = t} {u = u} m) h =
    let g = joining_pair s v d u t h in
    (g.1, g.0, g.3, g.2, each (Keeps s) keeps m g.0 g.1 g.4)

replaced_back : (P : Atom → Type 0) (R : Atom → Atom → Type 0) → ((a b : Atom) → R a b → P b → P a) → {xs ys : List Atom} → Replaced R xs ys → AllByRecursion P ys → AllByRecursion P xs
replaced_back P R f (here {a = a} {b = b} r) h = (f a b r h.0, h.1)
replaced_back P R f (there k) h = (h.0, replaced_back P R f k h.1)

-- merging pulls choices back, and what holds of the merged atom holds of both
merges_pulls_back : (s : Shape) {a b c : Atom} {f : Term → Term} → Merges a b c f → PullsBack s f
merges_pulls_back s (classes {t = t} {t' = t'} n) = apply_pulls_back s (unify t t') (proper t t')
merges_pulls_back s (pairs {t = t} {t' = t'} {u = u} {u' = u'} n m) =
    let k = unify t t' in
    let j = unify_second t t' u u' in
    both_pull_back s (apply k) (apply j) (apply_pulls_back s k (proper t t')) (apply_pulls_back s j (proper (apply k u) (apply k u')))

merges_back : (s : Shape) {a b c : Atom} {f : Term → Term} → Merges a b c f → (v w : ℕ → s.Carrier) → Reflects s.thing w v f →
    Holds s v (on_terms f c) → Holds s w a × Holds s w b
merges_back s (classes {t = t} {t' = t'} n) v w pull h =
    let k = unify t t' in
    let r = filled t t' in
    let i = unify_equal t t' n in (
      (h.0, met s v w (apply k) pull t r (one_meets k t r i.0) h.0 h.1, h.2),
      (h.0, met s v w (apply k) pull t' r (one_meets k t' r i.1) h.0 h.1, h.2),
    )
merges_back s (pairs {t = t} {t' = t'} {u = u} {u' = u'} n m) v w pull h =
    let k = unify t t' in
    let j = unify_second t t' u u' in
    let f : Term → Term = λ w. apply j (apply k w) in
    let r = filled t t' in
    let q = filled u u' in
    let i = unify_equal t t' n in
    let l = unify_equal (apply k u) (apply k u') m in
    let e = apply_filled k (proper t t') u u' in
    let g = filled (apply k u) (apply k u') in (
      (h.0, h.1, met s v w f pull t r (first_meets k j t r i.0) h.0 h.2, met s v w f pull u q (second_meets k j u q g e l.0) h.1 h.3, h.4),
      (h.0, h.1, met s v w f pull t' r (first_meets k j t' r i.1) h.0 h.2, met s v w f pull u' q (second_meets k j u' q g e l.1) h.1 h.3, h.4),
    )

-- and so for the two atoms in their list
without_back : (P : Atom → Type 0) {b : Atom} {xs ys : List Atom} → Without b xs ys → P b → AllByRecursion P ys → AllByRecursion P xs
without_back P first p h = (p, h)
without_back P (later k) p h = (h.0, without_back P k p h.1)

merged_pulls_back : (s : Shape) {f : Term → Term} {xs ys : List Atom} → Merged f xs ys → PullsBack s f
merged_pulls_back s (merged m k) = merges_pulls_back s m
merged_pulls_back s (beyond k) = merged_pulls_back s k

merged_back : (s : Shape) (v w : ℕ → s.Carrier) {f : Term → Term} → Reflects s.thing w v f →
    {xs ys : List Atom} → Merged f xs ys → AllByRecursion (Holds s v) (map (on_terms f) ys) → AllByRecursion (Holds s w) xs
merged_back s v w {f = f} pull (merged {others = others} m k) h =
    let g = merges_back s m v w pull h.0 in
    (g.0, without_back (Holds s w) k g.1 (all_unmap (Holds s w) (Holds s v) (on_terms f) (holds_unmap s w v f pull) others h.1))
merged_back s v w {f = f} pull (beyond {a = a} k) h =
    (holds_unmap s w v f pull a h.0, merged_back s v w pull k h.1)

-- a row that is true of what one step makes is true before it
pub step_back : (s : Shape) (rules : List Rule) → AllByRecursion (Keeps s) rules → {p r : Query} → OneStep rules p r → (row : List Name) → True s r row → True s p row
step_back s rules keeps (replaces k) row h =
    (h.0, h.1, replaced_back (Holds s h.0) (Becomes rules) (becomes_back s rules keeps h.0) k h.2)
step_back s rules keeps (merges {p = p} {f = f} k) row h =
    let g = merged_pulls_back s k h.0 in
    (g.0, matched_unmap (Serves s.thing g.0) (Serves s.thing h.0) f g.1 p.head (map s.thing row) h.1, merged_back s h.0 g.0 g.1 k h.2)

-- a row that is true of a rewriting is true of the question
pub sound : (s : Shape) (rules : List Rule) → AllByRecursion (Keeps s) rules → (q : Query) {r : Query} → Rewriting rules q r → (row : List Name) → True s r row → True s q row
sound s rules keeps q itself row h = tidy_back s q row h
sound s rules keeps q (onward {p = p} {r = r} w k) row h = sound s rules keeps q w row (step_back s rules keeps k row (tidy_back s r row h))
