use Rattle.std.proofs.Common.{◌≡◌, ℕ, ◌≤◌, false, List, length, replicate, sym, refl, ap, ◌∙◌, arith}
use Rattle.bitstore.proofs.Bytes.{bit_zeros}
use Rattle.bitstore.proofs.Groups.{counts_none}
use Rattle.bitstore.proofs.store.BitStore.new.Goals as goal
use Rattle.bitstore.proofs.Held.{facts_different, facts_fit, facts_short, no_facts}
use Rattle.bitstore.specs.Layout.{bits, bytes}
use Rattle.bitstore.specs.Marks.{bit_at, tally}
use Rattle.bitstore.proofs.Ranks.{tally_none}
use Rattle.std.proofs.lemmas.List.{length-replicate}

-- a table that was filled with zeros has no bit set
none_set : (t : List ℕ) (n : ℕ) → t ≡ replicate n 0 → (k : ℕ) → bit_at t k ≡ false
none_set t n e k = ap (λ (ys : List ℕ). bit_at ys k) e ∙ bit_zeros n k

pub invariant_of-result : goal.invariant_of-result
invariant_of-result c =
    let t = c.fill.new.self in
    let none = none_set t _ (c.fill.ensures.after (λ y e. e)) in
    let n : ℕ = c.args.pass.names in
    let held : ◌≡◌ {A = ℕ} 0 (tally (bit_at t) (bits n)) = sym (tally_none (bit_at t) (bits n) none) in
    let least : 64 ≤ n = c.requires.least in
    let most : n ≤ 120 = c.requires.most in
    let size : length t ≡ bytes c.args.pass.names = ap length (c.fill.ensures.after (λ y e. e)) ∙ length-replicate _ 0 ∙ c.requires.sized in
    record {
      some = least;
      most = most;
      size = size;
      held = held;
      small = omega arith;
      far = counts_none (bit_at t) 16384 32 32 none;
      near = counts_none (bit_at t) 512 1024 1024 none;
      few = facts_short n t 0 held (omega arith);
      different = ∣ facts_different n t (omega arith) ∣₁;
      fitting = ∣ facts_fit n t (omega arith) (omega arith) ∣₁;
    }

pub returns : goal.returns
returns c = (refl, no_facts c.args.pass.names c.fill.new.self (none_set c.fill.new.self _ (c.fill.ensures.after (λ y e. e))))
