use Rattle.std.proofs.Common.{ℕ, sym, ◌∙◌, subst}
use Rattle.bits.specs.Words.{Marked}
use Rattle.book.proofs.Spreading.{lead_one}
use Rattle.book.proofs.reach.Marks.lead.Goals as goal

pub returns : goal.returns
returns c =
    let self = c.args.self.now in
    let s = self.bits.words.now in
    let t = c.set.new.self.words.now in
    lead_one c.args.to s t c.requires.1 self.sized (subst (λ (i : ℕ). Marked i s t) c.index.ensures c.set.ensures) c.args.from
    (record { fits = c.requires.0; on = sym c.has.ensures ∙ c.if-not-has.false })
    (sym c.has-else-not-has.ensures ∙ c.if-has.false)
