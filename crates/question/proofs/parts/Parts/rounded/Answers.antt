use Rattle.std.proofs.Common.{◌≡◌, ℕ, ◌+◌, length, refl, ap, ◌∙◌, arith}
use Rattle.question.proofs.Tidied.{rounds_none, rounds_more}
use Rattle.question.proofs.parts.Parts.rounded.Goals as goal
use Rattle.question.specs.Parts.{of_parts}
use Rattle.question.specs.Shorts.{listed}
use Rattle.theory.specs.Tidying.{rounds}

pub loop-i-init : goal.loop-i-init
loop-i-init c = rounds_none _ _ refl

pub loop-i-preserved : goal.loop-i-preserved
loop-i-preserved c = rounds_more _ _ _ _ c.loop-i.invariant c.round-made.ensures

pub returns : goal.returns
returns c =
    let e : c.loop-i._i ≡ length (listed c.args.self.atoms) + 1 = omega arith in
    c.loop-i.invariant ∙ ap (λ (n : ℕ). rounds n (of_parts c.args.self)) e
