-- What the test before a bit store is made answers.
use Rattle.std.specs.Prelude.{◌≡◌, ℕ, ◌%◌, ◌≤◌, Ok, Err, Result}
use Rattle.bitstore.specs.Layout.{bytes}
use Rattle.bitstore.specs.declared.pass.BitPass.{BitPass}
use Rattle.vocabulary.specs.Faults.{number}
use Rattle.vocabulary.specs.declared.faults.Fault.{Fault}

-- for names below which n, and over how many bytes, a bit store can be made
pub record BitSuits (n size : ℕ) : Type 0 where
  pub eights : n % 8 ≡ 0
  pub least : 64 ≤ n
  pub most : n ≤ 120
  pub sized : size ≡ bytes n

abbrev pub BitTested : ℕ → ℕ → Result BitPass Fault → Type 0
BitTested n size (Ok pass) = (pass.names ≡ n) × BitSuits n size
BitTested n size (Err e) = (BitSuits n size → ⊥) × (number e ≡ 5)
