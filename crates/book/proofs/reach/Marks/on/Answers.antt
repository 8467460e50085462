use Rattle.std.proofs.Common.{◌≡◌, ℕ, List, length, ap, refl, ◌∙◌, subst}
use Rattle.bits.proofs.Words.{bit_zeros}
use Rattle.bits.specs.Words.{Marked, bit}
use Rattle.book.proofs.Spreading.{marked_only}
use Rattle.book.proofs.reach.Marks.on.Goals as goal
use Rattle.book.specs.Reach.{node_code}
use Rattle.book.specs.declared.reach.Node.{Node}
use Rattle.std.proofs.lemmas.Bool.{both_ways}
use Rattle.std.proofs.lemmas.List.{length-replicate}

pub returns-clause-alone : goal.returns-clause-alone
returns-clause-alone c =
    let n = c.args.n in
    let s = c.clear-bits.result.words.now in
    let zeros = c.clear-bits.ensures in
    let size = length c.args.words.now in
    marked_only n s c.set.new.self.words.now c.requires.1 (ap length zeros ∙ length-replicate size 0 ∙ c.requires.0)
    (subst (λ (i : ℕ). Marked i s c.set.new.self.words.now) c.index.ensures c.set.ensures)
    (λ (m : Node). m ≡ n) refl
    (λ m o. absurd (both_ways (bit s (node_code m)) (ap (λ (t : List ℕ). bit t (node_code m)) zeros ∙ bit_zeros size (node_code m)) o.on))
