-- One step in the words of the program is one step in those of the theory.
use Rattle.distinct.proofs.Members.{member_at, place_of}
use Rattle.question.proofs.Exact.{made_complete, made_sound, merging_complete, merging_sound}
use Rattle.question.proofs.Places.{at_merged, at_replaced, merged_at, replaced_at}
use Rattle.question.specs.Growth.{Next, atom_at, rule_at}
use Rattle.question.specs.Steps.{made_by, merged_by, replaced_by}
use Rattle.std.specs.List.{remove}
use Rattle.theory.specs.Questions.{Query}
use Rattle.theory.specs.Rewritings.{Becomes, OneStep, merges, replaces}
use Rattle.theory.specs.Tidying.{on_query, tidy}
use Rattle.vocabulary.specs.declared.basic.Basic.TheVariants.{Named}
use Rattle.vocabulary.specs.declared.questions.Atom.TheVariants.{IsIn}
use Rattle.vocabulary.specs.declared.questions.Atom.{Atom}
use Rattle.vocabulary.specs.declared.questions.Term.TheVariants.{Variable}
use Rattle.vocabulary.specs.declared.questions.Term.{Term}
use Rattle.vocabulary.specs.declared.rules.Rule.TheVariants.{Within}
use Rattle.vocabulary.specs.declared.rules.Rule.{Rule}
use Rattle.std.proofs.Common.{◌≡◌, List, set, sym, ap, ◌∙◌, inl, inr, arith}

no_atom : Atom
no_atom = IsIn (record { 0 = 0 }) (Variable 0)

no_rule : Rule
no_rule = Within (Named (record { 0 = 0 })) (Named (record { 0 = 0 }))

pub record Stepped (rules : List Rule) (p x : Query) : Type 0 where
  pub to : Query
  pub step : OneStep rules p to
  pub is : x ≡ tidy to

pub next_step : (rules : List Rule) (p x : Query) → Next rules p x → Stepped rules p x
unfolding no_atom no_rule
next_step rules p x (inl at) =
    let i = at.place in
    let by = at.what.what in
    let k = at.what.place in
    record {
      to = replaced_by p i by.atom;
      step = replaces (replaced_at (Becomes rules) no_atom p.atoms i by.atom at.low
          (made_sound rules (rule_at rules k) (atom_at p i) by.atom (member_at rules k no_rule at.what.low) by.made));
      is = by.is;
    }
next_step rules p x (inr at) =
    let i = at.place in
    let j = at.what.place in
    let by = at.what.what in
    record {
      to = merged_by p i j by.merger;
      step = merges (merged_at no_atom p.atoms i j by.merger.atom by.order at.what.low (merging_sound (atom_at p i) (atom_at p j) by.merger by.made));
      is = by.is;
    }

pub step_next : (rules : List Rule) {p y : Query} → OneStep rules p y → Next rules p (tidy y)
unfolding no_atom no_rule
step_next rules (replaces {p = p} {others = others} k) =
    let h = at_replaced (Becomes rules) no_atom k in
    let g = made_complete rules h.made in
    let (i, low, is) = place_of g.stands in
    inl (record {
      place = h.place;
      low = h.fits;
      what = record {
        place = i;
        low = low;
        what = record {
          atom = h.by;
          made = ap (λ (r : Rule). made_by r (atom_at p h.place)) (is no_rule) ∙ g.made;
          is = ap (λ (ys : List Atom). tidy (record { head = p.head; atoms = ys })) h.is;
        };
      };
    })
step_next rules (merges {p = p} {others = others} {f = f} k) =
    let h = at_merged no_atom k in
    let g = merging_complete h.made in
    inr (record {
      place = h.earlier;
      low = omega (arith, h.order, h.fits);
      what = record {
        place = h.later;
        low = h.fits;
        what = record {
          order = h.order;
          merger = g.merger;
          made = g.made;
          is = ap (λ (ys : List Atom). tidy (on_query f (record { head = p.head; atoms = ys }))) h.is
              ∙ ap (λ (c : Atom). tidy (on_query f (record { head = p.head; atoms = remove (set p.atoms h.earlier c) h.later }))) (sym g.atom)
              ∙ ap (λ (e : Term → Term). tidy (on_query e (record { head = p.head; atoms = remove (set p.atoms h.earlier g.merger.atom) h.later }))) (sym g.all);
        };
      };
    })
