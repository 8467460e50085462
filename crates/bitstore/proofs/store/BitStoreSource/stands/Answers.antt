use Rattle.std.proofs.Common.{◌≡◌, sym, ap, ◌∙◌, arith}
use Rattle.std.proofs.lemmas.Bool.{false≢true}
use Rattle.bitstore.specs.Layout.{position_of}
use Rattle.bitstore.specs.Marks.{bit_at}
use Rattle.bitstore.proofs.Held.{bit_stands, stands_bit}
use Rattle.bitstore.proofs.store.BitStoreSource.stands.Goals as goal

pub returns-in_default : goal.returns-in_default
returns-in_default c =
    let s = c.args.self.now in
    (λ e. absurd (false≢true e), λ h. absurd (c.in_default.ensures (stands_bit s.names s.table.now (omega arith) c.args.fact h).0))

pub returns : goal.returns
returns c =
    let s = c.args.self.now in
    let t = s.table.now in
    let f = c.args.fact in
    let bit = c.in-Some.ensures in
    let is : c.is_set.result ≡ bit_at t (position_of s.names f) = c.is_set.ensures ∙ ap (bit_at t) bit.1.at in
    (λ e. bit_stands s.names t (omega arith) f bit.0 (sym is ∙ e), λ h. is ∙ (stands_bit s.names t (omega arith) f h).1)
