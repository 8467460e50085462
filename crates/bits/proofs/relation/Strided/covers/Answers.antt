use Rattle.std.proofs.Common.{◌∙◌, ◌≡◌, ℕ, ◌==◌, sym, subst₂, arith, rules, tests}
use Rattle.bits.proofs.Inheriting.{row_covers, zipped_all}
use Rattle.bits.proofs.relation.Strided.covers.Goals as goal
use Rattle.std.proofs.lemmas.Iterator.{YieldsList-from_slice, YieldsList-from_zip}
use Rattle.std.proofs.lemmas.Iterator.Search.{all_from_yields_List}
use Rattle.std.specs.Int.Bits.{bit_or}

pub returns : goal.returns
returns c e h =
    let z = c.args.self.now.stride in
    let t = c.args.self.now.bits.words.now in
    let theirs = c.row.result.now in
    let mine = c.row-2.result.now in
    let all = all_from_yields_List {s = c.zip.result} (λ (p : ℕ × ℕ). bit_or p.0 p.1 == p.1) c.all.new.self _ c.all.result c.all.ensures.ran
    (YieldsList-from_zip (YieldsList-from_slice theirs cc) (YieldsList-from_slice mine cc)) (λ x b q k. search (rules, tests)) in
    row_covers z t c.args.from c.args.to
    (λ j l. subst₂ (λ (x y : ℕ). bit_or x y ≡ y) (c.row.ensures.words j l) (c.row-2.ensures.words j l)
    (zipped_all theirs mine (sym e ∙ all) j (omega (arith, c.row.ensures.length)) (omega (arith, c.row-2.ensures.length)))) h
