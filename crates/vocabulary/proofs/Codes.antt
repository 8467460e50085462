-- Codes are in range and tell directed links and basic classes in range apart; turning twice is nothing.
use Rattle.std.proofs.Common.{◌≡◌, ℕ, refl, ap, arith}
use Rattle.vocabulary.specs.Codes.{turn, directed_code, basic_code}
use Rattle.vocabulary.specs.Ranges.{DirectedFits, BasicFits}
use Rattle.vocabulary.specs.declared.basic.Basic.{Basic}
use Rattle.vocabulary.specs.declared.basic.Basic.TheVariants.{Named, Start}
use Rattle.vocabulary.specs.declared.basic.Directed.{Directed}
use Rattle.vocabulary.specs.declared.basic.Directed.TheVariants.{Forward, Backward}

pub turn_turn : (d : Directed) → turn (turn d) ≡ d
turn_turn (Forward l) = refl
turn_turn (Backward l) = refl

pub turn_fits : (d : Directed) → DirectedFits d → DirectedFits (turn d)
turn_fits (Forward l) h = h
turn_fits (Backward l) h = h

pub directed_same : (d e : Directed) → DirectedFits d → DirectedFits e → directed_code d ≡ directed_code e → d ≡ e
directed_same (Forward l) (Forward m) h k e = ap (λ (n : ℕ). Forward (record { 0 = n })) e
directed_same (Forward l) (Backward m) h k e = absurd (omega arith)
directed_same (Backward l) (Forward m) h k e = absurd (omega arith)
directed_same (Backward l) (Backward m) h k e = ap (λ (n : ℕ). Backward (record { 0 = n })) (let s : l.0 ≡ m.0 = omega arith in s)

pub basic_same : (b c : Basic) → BasicFits b → BasicFits c → basic_code b ≡ basic_code c → b ≡ c
basic_same (Named b) (Named c) h k e = ap (λ (n : ℕ). Named (record { 0 = n })) e
basic_same (Named b) (Start d) h k e = absurd (omega arith)
basic_same (Start d) (Named c) h k e = absurd (omega arith)
basic_same (Start d) (Start f) h k e = ap Start (directed_same d f h k (omega arith))
