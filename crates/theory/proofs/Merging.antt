-- Merging two atoms that hold of the same things.
use Rattle.std.specs.Prelude.{Option, Some, None}
use Rattle.std.proofs.Common.{◌≡◌, ℕ, ◌≤◌, eqb, ltb, List, sym, ap, ◌∙◌, subst, arith}
use Rattle.std.proofs.lemmas.Bool.{eqb-true, eqb-false, cond_both}
use Rattle.theory.proofs.Applicable.{Settled, in_facts, bound}
use Rattle.theory.proofs.Derivations.{linked, pair, size_pos, DerivedIn}
use Rattle.theory.proofs.Measures.{HoldsIn}
use Rattle.theory.proofs.Numbering.{Thing, name}
use Rattle.theory.proofs.Terms.{Respects}
use Rattle.theory.specs.Questions.{Serves}
use Rattle.theory.specs.Rewritings.{joining, unify, Agrees, apply, filled, unify_second, Merges, pairs}
use Rattle.vocabulary.specs.declared.basic.Directed.{Directed}
use Rattle.vocabulary.specs.declared.basic.Directed.TheVariants.{Forward, Backward}
use Rattle.vocabulary.specs.declared.facts.Fact.{Fact}
use Rattle.vocabulary.specs.declared.numbers.Link.{Link}
use Rattle.vocabulary.specs.declared.numbers.Name.{Name}
use Rattle.vocabulary.specs.declared.questions.Atom.{Atom}
use Rattle.vocabulary.specs.declared.questions.Atom.TheVariants.{IsIn, Joins}
use Rattle.vocabulary.specs.declared.questions.Term.{Term}
use Rattle.vocabulary.specs.declared.questions.Term.TheVariants.{Variable, Constant, Open}
use Rattle.vocabulary.specs.declared.questions.Unifier.{Unifier}
use Rattle.vocabulary.specs.declared.questions.Unifier.TheVariants.{Trivial, Binds}
use Rattle.vocabulary.specs.declared.rules.Rule.{Rule}

-- terms for which one thing serves unify, the unifier respects what serves, and the thing serves for the merged term
binds_respects : (v : ℕ → Thing) (n : ℕ) (u : Term) → Serves name v u (v n) → Respects name v v (apply (Some (Binds n u)))
binds_respects v n u s (Variable k) z h =
    cond_both (eqb k n) u (Variable k) (λ (t : Term). Serves name v t z)
    (λ e. subst (Serves name v u) (ap v (sym (eqb-true k n e)) ∙ h) s) (λ e. h)
binds_respects v n u s (Constant a) z h = h
binds_respects v n u s Open z h = h

unify_respects : (v : ℕ → Thing) (t u : Term) (x : Thing) → Serves name v t x → Serves name v u x → Agrees (unify t u) × Respects name v v (apply (unify t u))
unify_respects v Open u x p q = (tt, λ t z h. h)
unify_respects v (Variable m) Open x p q = (tt, λ t z h. h)
unify_respects v (Variable m) (Variable n) x p q =
    cond_both (ltb m n) (Some (Binds n (Variable m))) (Some (Binds m (Variable n))) (λ (k : Option Unifier). Agrees k × Respects name v v (apply k))
    (λ e. (tt, binds_respects v n (Variable m) (p ∙ sym q))) (λ e. (tt, binds_respects v m (Variable n) (q ∙ sym p)))
unify_respects v (Variable m) (Constant a) x p q = (tt, binds_respects v m (Constant a) (subst (Serves name v (Constant a)) (sym p) q))
unify_respects v (Constant a) Open x p q = (tt, λ t z h. h)
unify_respects v (Constant a) (Variable n) x p q = (tt, binds_respects v n (Constant a) (subst (Serves name v (Constant a)) (sym q) p))
unify_respects v (Constant a) (Constant b) x p q =
    cond_both (eqb a.0 b.0) (Some Trivial) None (λ (k : Option Unifier). Agrees k × Respects name v v (apply k))
    (λ e. (tt, λ t z h. h)) (λ e. absurd (eqb-false a.0 b.0 e (let i : a ≡ b = cc in ap (λ (n : Name). n.0) i)))

filled_serves : (v : ℕ → Thing) (t u : Term) (x : Thing) → Serves name v t x → Serves name v u x → Serves name v (filled t u) x
filled_serves v Open u x p q = q
filled_serves v (Variable n) u x p q = p
filled_serves v (Constant a) u x p q = p

module _ (rules : List Rule) (facts : List Fact) (v : ℕ → Thing) where
  -- an atom that holds takes a step at least, and a settled atom holds
  pub holds_in_pos : (k : ℕ) (a : Atom) → HoldsIn rules facts v k a → 1 ≤ k
  holds_in_pos k (IsIn c t) h = omega (arith, size_pos rules facts h.2.0, h.2.1)
  holds_in_pos k (Joins l t u) h = omega (arith, size_pos rules facts h.4.0, h.4.1)

  pub settled_holds : (limit : Thing → Type 0) (k : ℕ) (a : Atom) → Settled rules facts v limit k a → HoldsIn rules facts v k a
  settled_holds limit k a (in_facts f h) = h
  settled_holds limit k a (bound b c h) = h

  -- two atoms that hold of the same things merge, in no more steps
  abbrev pub Mergeable : ℕ → Atom → Atom → Type 0
  Mergeable k a b = (c : Atom) × (f : Term → Term) × Merges a b c f × Respects name v v f × HoldsIn rules facts v k c

  pairs_merge : (k : ℕ) (l : Link) (t u t' u' : Term) (x y : Thing) → Serves name v t x → Serves name v t' x → Serves name v u y → Serves name v u' y → DerivedIn rules facts k (linked l x y) → Mergeable k (Joins l t u) (Joins l t' u')
  pairs_merge k l t u t' u' x y p p' q q' d =
      let i = unify_respects v t t' x p p' in
      let f = apply (unify t t') in
      let j = unify_respects v (f u) (f u') y (i.1 u y q) (i.1 u' y q') in (
        Joins l (filled t t') (filled u u'),
        (λ w. apply (unify_second t t' u u') (f w)),
        pairs i.0 j.0,
        (λ w z h. j.1 (f w) z (i.1 w z h)),
        (x, y, filled_serves v t t' x p p', filled_serves v u u' y q q', d),
      )

  -- two atoms of one link with the same variable at the far end merge, if one thing serves at their near ends
  pub joining_merge : (k : ℕ) (d : Directed) (t t' : Term) (m : ℕ) (x y : Thing) → Serves name v t x → Serves name v t' x → v m ≡ y → DerivedIn rules facts k (pair d x y) →
      Mergeable k (joining d t (Variable m)) (joining d t' (Variable m))
  joining_merge k (Forward l) t t' m x y p p' e d = pairs_merge k l t (Variable m) t' (Variable m) x y p p' e e d
  joining_merge k (Backward l) t t' m x y p p' e d = pairs_merge k l (Variable m) t (Variable m) t' y x e e p p' d
