use Rattle.book.proofs.pass.Pass.test.Goals as goal
use Rattle.book.specs.Passes.{TestFault, no_family, no_length}
use Rattle.std.proofs.lemmas.Result.{err_from_is_err_and}
use Rattle.std.proofs.Common.{length, sym, subst, inl, inr}

pub returns-in_err-family : goal.returns-in_err-family
returns-in_err-family c =
    let p = err_from_is_err_and c.from_residual.result c.from_residual.ensures.1 in
    let h = c.in_err-family.ensures in
    let at = TestFault c.args.code (length c.args.rules.now) (length c.args.basic.now) (length c.args.linked.now) in
    rw (p.1, p.2) (subst at (sym h.1) (no_family h.0))

pub returns-then-rules-ne256 : goal.returns-then-rules-ne256
returns-then-rules-ne256 c = no_length c.in_ok-family.family c.in_ok-family.ensures (λ s. elim c.then-rules-ne256.either [
  | inl n ↦ n s.of_rules
  | inr h ↦ elim h [ inl k ↦ k.1 s.of_basic | inr k ↦ k.2 s.of_links ]
])
