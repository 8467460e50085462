use Rattle.std.proofs.Common.{◌/◌, ◌%◌, ◌^◌, ℕ, ap, ◌∙◌, nat_eq}
use Rattle.bits.proofs.Words.{bit_shr}
use Rattle.bits.proofs.table.get.Goals as goal
use Rattle.bits.specs.Words.{bit, word}
use Rattle.std.specs.Int.Bits.{bit_and}

pub returns : goal.returns
unfolding bit
returns c =
    let j = c.args.m % 64 in
    ap (λ (w : ℕ). nat_eq (bit_and (w / 2 ^ j) 1) 1) c.word_at.ensures ∙ bit_shr (word c.args.words.now (c.args.m / 64)) j
