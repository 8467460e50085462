-- A number that is read digit by digit, and stays at the largest of its type once it gets there.
use Rattle.std.proofs.Common.{◌≡◌, ℕ, ◌+◌, ◌-◌, ◌*◌, ◌^◌, ◌<◌, ◌≤◌, min, List, [], ◌∷◌, length, refl, ◌∙◌, subst, arith}
use Rattle.std.specs.Str.Parse.{AllDigits, digits_value_after, digits_value}
use Rattle.std.specs.Int.{IsInRange}
use Rattle.std.specs.Char.{digit_value}
use Rattle.std.proofs.lemmas.Str.{digit_value_digit}

abbrev most : ℕ
most = 2 ^ 64 - 1

-- n is what the word writes before rest
pub record Sofar (word : List ℕ) (n : ℕ) (rest : List ℕ) : Type 0 where
  pub small : n ≤ most
  pub to : AllDigits 10 rest → AllDigits 10 word
  pub back : AllDigits 10 word → AllDigits 10 rest
  pub same : min (digits_value_after 10 n rest) most ≡ min (digits_value 10 word) most

pub start : (word : List ℕ) → Sofar word 0 word
start word = record { small = omega arith; to = λ h. h; back = λ h. h; same = refl }

one_digit : (n m d : ℕ) → min n most ≡ min m most → min (n * 10 + d) most ≡ min (m * 10 + d) most
one_digit n m d h = omega arith

-- numbers that are the same up to most stay so over more digits
capped : (n m : ℕ) (ds : List ℕ) → min n most ≡ min m most → min (digits_value_after 10 n ds) most ≡ min (digits_value_after 10 m ds) most
capped n m [] h = h
capped n m (c ∷ cs) h = capped (n * 10 + digit_value c) (m * 10 + digit_value c) cs (one_digit n m (digit_value c) h)

pub one_more : (word : List ℕ) (n b m : ℕ) (rest more : List ℕ) → Sofar word n rest → rest ≡ b ∷ more → IsInRange 48 57 b → m ≡ min (min (n * 10) most + (b - 48)) most → Sofar word m more
one_more word n b m rest more old cut digit sum =
    let now = subst (Sofar word n) cut old in
    let is = digit_value_digit b digit in
    let low : digit_value b < 10 = omega arith in
    let near : min m most ≡ min (n * 10 + digit_value b) most = omega arith in
    record {
      small = omega arith;
      to = λ h. now.to (low, h);
      back = λ h. (now.back h).1;
      same = capped m (n * 10 + digit_value b) more near ∙ now.same;
    }

pub done : (word : List ℕ) (n : ℕ) (rest : List ℕ) → Sofar word n rest → length rest ≡ 0 → AllDigits 10 word × (n ≡ min (digits_value 10 word) most)
done word n [] h e = (h.to tt, omega (arith, h.small, h.same))
done word n (b ∷ rest) h e = absurd (omega arith)
