use Rattle.bits.proofs.Inheriting.{pair_zeros}
use Rattle.bits.proofs.relation.Strided.none.Goals as goal
use Rattle.bits.specs.Relations.{On, Symmetric}
use Rattle.std.proofs.lemmas.Bool.{both_ways}
use Rattle.std.proofs.Common.{ℕ, List, length, sym, refl, ap, ◌∙◌, subst}
use Rattle.std.proofs.lemmas.List.{length-replicate}

pub invariant_of-result : goal.invariant_of-result
invariant_of-result c =
    let n = length c.args.words.now in
    let zeros = c.clear-bits.ensures in
    record {
      sized = ap length zeros ∙ length-replicate n 0 ∙ c.requires;
      symmetric = subst (Symmetric c.args.stride) (sym zeros) (λ x y h. pair_zeros c.args.stride n x y ∙ sym (pair_zeros c.args.stride n y x));
    }

pub returns : goal.returns
returns c =
    let n = length c.args.words.now in
    record {
      stride = refl;
      empty = λ a b o.
          both_ways _ (pair_zeros c.args.stride n a b) (subst (λ (t : List ℕ). On c.args.stride t a b) c.clear-bits.ensures o).set;
    }
