-- What a put answered, by what a caller has once it turned the error into one of its own.
use Rattle.distinct.specs.declared.Full.{Full}
use Rattle.std.proofs.Common.{◌≡◌, Bool, true, false, MatchResult, Ok, Err, Result, sym, refl}
use Rattle.std.proofs.lemmas.Bool.{false≢true}
use Rattle.std.specs.Result.{is_ok}

pub told_ok : (F : Type 0) (Q : Full → Type 0) (r : Result Bool Full) (b : Bool) → MatchResult r (λ x. ◌≡◌ {A = Result Bool F} (Ok b) (Ok x)) Q → true ≡ is_ok r → r ≡ Ok b
told_ok F Q (Ok x) b h e = cc
told_ok F Q (Err full) b h e = absurd (false≢true (sym e))

pub told_full : (r : Result Bool Full) → false ≡ is_ok r → (full : Full) × (r ≡ Err full)
told_full (Ok x) e = absurd (false≢true e)
told_full (Err full) e = (full, refl)
