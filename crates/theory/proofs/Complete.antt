-- Every row that is true of the derived atoms is found by a rewriting in the facts.
use Rattle.std.proofs.Common.{◌≡◌, ℕ, zero, suc, ◌+◌, ◌<◌, ◌≤◌, ◌⊎◌, List, [], ◌∷◌, map, sym, refl, ap, ◌∙◌, subst, inl, inr, ⊎_elim, arith}
use Rattle.std.specs.List.{AllByRecursion}
use Rattle.theory.proofs.Applicable.{Replaces, searched, Settled, Any}
use Rattle.theory.proofs.Deepest.{IsName, Deepest, deepest, InFacts, facts_all, fewer}
use Rattle.theory.proofs.Derivations.{Derived, ground_shape, Stored, size}
use Rattle.theory.proofs.Lists.{matched_map}
use Rattle.theory.proofs.Lone.{NoLone, tidy_no_lone}
use Rattle.theory.proofs.Measures.{Summed, HoldsIn, TrueIn, holds_in_map, tidy_true_in}
use Rattle.theory.proofs.Numbering.{Thing, name}
use Rattle.theory.proofs.Occurrences.{times_other}
use Rattle.theory.specs.Lists.{Matched}
use Rattle.theory.specs.Questions.{Query, Serves, Holds, True}
use Rattle.theory.specs.Rewritings.{OneStep, replaces, merges, Rewriting, itself, onward}
use Rattle.theory.specs.Tidying.{all_terms, times, on_query, tidy}
use Rattle.vocabulary.specs.declared.facts.Fact.{Fact}
use Rattle.vocabulary.specs.declared.numbers.Name.{Name}
use Rattle.vocabulary.specs.declared.questions.Atom.{Atom}
use Rattle.vocabulary.specs.declared.questions.Atom.TheVariants.{IsIn, Joins}
use Rattle.vocabulary.specs.declared.questions.Term.{Term}
use Rattle.vocabulary.specs.declared.questions.Term.TheVariants.{Variable, Constant, Open}
use Rattle.vocabulary.specs.declared.rules.Rule.{Rule}

-- a variable that stands for no name is not in the head of a question with a true row
not_in_head : (v : ℕ → Thing) (m : ℕ) → ¬ (IsName (v m)) → (ts : List Term) (row : List Name) → Matched (Serves name v) ts (map name row) → times m ts ≡ 0
unfolding times
not_in_head v m high [] row h = refl
not_in_head v m high (t ∷ ts) [] h = absurd h
not_in_head v m high (Variable n ∷ ts) (a ∷ row) h =
    times_other m n ts (λ e. high (subst IsName (sym (ap v e ∙ h.0)) tt)) ∙ not_in_head v m high ts row h.1
not_in_head v m high (Constant b ∷ ts) (a ∷ row) h = not_in_head v m high ts row h.1
not_in_head v m high (Open ∷ ts) (a ∷ row) h = not_in_head v m high ts row h.1

module _ (rules : List Rule) (facts : List Fact) where
  -- atoms that hold by derivations take some number of steps in all
  total : (v : ℕ → Thing) (xs : List Atom) → AllByRecursion (Holds (ground_shape (Derived rules facts)) v) xs → (n : ℕ) × Summed (HoldsIn rules facts v) n xs
  total v [] h = (0, tt)
  total v (IsIn c t ∷ rest) h =
      let k = total v rest h.1 in
      let i = size rules facts h.0.2 in
      (i + k.0, (i, k.0, omega arith, (h.0.0, h.0.1, (h.0.2, omega arith)), k.1))
  total v (Joins l t u ∷ rest) h =
      let k = total v rest h.1 in
      let i = size rules facts h.0.4 in
      (i + k.0, (i, k.0, omega arith, (h.0.0, h.0.1, h.0.2, h.0.3, (h.0.4, omega arith)), k.1))

  module _ (row : List Name) where
    abbrev FactsSay : Query → Type 0
    FactsSay q = True (ground_shape (Stored facts)) q row

    -- one step to a question of which the row is true by fewer steps of derivation
    record Onward (n : ℕ) (q : Query) : Type 0 where
      pub next : Query
      pub step : OneStep rules q next
      pub left : ℕ
      pub less : left < n
      pub true_in : TrueIn rules facts left next (map name row)

    -- the row is true of the facts, or there is such a step
    progress : (n : ℕ) (q : Query) → NoLone q.head (all_terms q.atoms) → TrueIn rules facts n q (map name row) → FactsSay q ⊎ Onward n q
    unfolding Replaces
    progress n q no-lone (v, h, k) = ⊎_elim settled (λ r. inr (by_rule r)) (searched rules facts v n q.atoms k)
      where
        by_rule : Replaces rules facts v n q.atoms → Onward n q
        by_rule r = record { next = record { head = q.head; atoms = r.0 }; step = replaces r.1; left = r.2; less = r.3; true_in = (v, h, r.4) }

        by_merging : Deepest rules facts v n q.atoms → Onward n q
        by_merging t =
            let m = t.far in
            let out = not_in_head v m (λ i. subst IsName t.far_is i) q.head row h in
            let one : times m (all_terms q.atoms) ≡ 1 → ⊥ = no-lone m out in
            let f = fewer rules facts v t.from t.way m t.far_is n q.atoms t.under (omega (arith, t.occurs, one)) in
            record {
              next = on_query f.change (record { head = q.head; atoms = f.others });
              step = merges f.step;
              left = f.left;
              less = f.less;
              true_in = (
                v,
                matched_map (Serves name v) (Serves name v) f.change f.respects q.head (map name row) h,
                holds_in_map rules facts v v f.change f.respects f.left f.others f.held,
              );
            }

        by_facts : Summed (InFacts rules facts v) n q.atoms → FactsSay q
        by_facts s = (v, h, facts_all rules facts v n q.atoms s)

        settled : Summed (Settled rules facts v Any) n q.atoms → FactsSay q ⊎ Onward n q
        settled s = ⊎_elim (λ l. inl (by_facts l)) (λ t. inr (by_merging t)) (deepest rules facts v n q.atoms s)

    -- so steps lead to a rewriting of which the row is true of the facts
    abbrev Answered : Query → Type 0
    Answered q = (r : Query) × Rewriting rules q r × FactsSay r

    answered : (fuel n : ℕ) → n ≤ fuel → (q p : Query) → Rewriting rules q p → NoLone p.head (all_terms p.atoms) → TrueIn rules facts n p (map name row) → Answered q
    answered zero n le q p w no-lone h =
        ⊎_elim (λ f. (p, w, f)) (λ (o : Onward n p). absurd (omega (arith, o.less))) (progress n p no-lone h)
    answered (suc fuel) n le q p w no-lone h =
        ⊎_elim (λ f. (p, w, f))
        (λ (o : Onward n p). answered fuel o.left (omega (arith, o.less)) q (tidy o.next) (onward w o.step) (tidy_no_lone o.next) (tidy_true_in rules facts o.left o.next (map name row) o.true_in))
        (progress n p no-lone h)

-- a row that is true of the derived atoms is true of a rewriting and the facts alone
pub complete : (rules : List Rule) (facts : List Fact) (q : Query) (row : List Name) → True (ground_shape (Derived rules facts)) q row →
    (r : Query) × Rewriting rules q r × True (ground_shape (Stored facts)) r row
complete rules facts q row (v, h, k) =
    let t = total rules facts v q.atoms k in
    answered rules facts row t.0 t.0 (omega arith) q (tidy q) itself (tidy_no_lone q) (tidy_true_in rules facts t.0 q (map name row) (v, h, t.1))
