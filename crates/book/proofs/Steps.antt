-- Steps of what only grows: nothing happens, one step after another, the same step for others.
use Rattle.std.proofs.Common.{ℕ, Bool, false, ◌||◌, sym, refl, ◌∙◌, subst, inl, inr, arith}
use Rattle.book.specs.Steps.{Adds, AllAllowed, Extends}
use Rattle.std.proofs.lemmas.Bool.{false≢true, or_cases, or_parts}

module _ {S P X : Type 0} {Shown : S → P → Type 0} {Allowed : X → P → Type 0} where
  pub extends_none : {G : X → Type 0} {s : S} → Extends Shown Allowed G s s
  extends_none = record { more = λ p h. h; sound = λ x h old. old }

  pub extends_then : {G : X → Type 0} {s t u : S} → Extends Shown Allowed G s t → Extends Shown Allowed G t u → Extends Shown Allowed G s u
  extends_then a b = record { more = λ p h. b.more p (a.more p h); sound = λ x h old. b.sound x h (a.sound x h old) }

module _ {S P X : Type 0} {Shown : S → P → Type 0} {Allowed : X → P → Type 0} {left : S → ℕ} where
  pub adds_none : {G : X → Type 0} {C : S → Type 0} {s : S} → C s → Adds Shown Allowed left G C false s s
  adds_none c = record {
    extends = extends_none;
    at_most = omega arith;
    added = λ e. absurd (false≢true e);
    idle = λ e. (refl, c);
  }

  -- the same step for others, which may use that all was allowed, and with something else said of the state
  pub adds_given : {G H : X → Type 0} {C D : S → Type 0} {r : Bool} {s t : S} →
      ((x : X) → H x → AllAllowed Shown (Allowed x) s → G x) → (C t → D t) → Adds Shown Allowed left G C r s t → Adds Shown Allowed left H D r s t
  adds_given g d a = record {
    extends = record { more = a.extends.more; sound = λ x h old. a.extends.sound x (g x h old) old };
    at_most = a.at_most;
    added = a.added;
    idle = λ e. let i = a.idle e in (i.0, d i.1);
  }

  pub adds_like : {G H : X → Type 0} {C D : S → Type 0} {r : Bool} {s t : S} →
      ((x : X) → H x → G x) → (C t → D t) → Adds Shown Allowed left G C r s t → Adds Shown Allowed left H D r s t
  adds_like g d a = adds_given (λ x h _. g x h) d a

  -- the answers are joined by `|=`
  pub adds_then : {G : X → Type 0} {C D E : S → Type 0} {r q : Bool} {s t u : S} →
      (C u → D u → E u) → Adds Shown Allowed left G C r s t → Adds Shown Allowed left G D q t u → Adds Shown Allowed left G E (r || q) s u
  adds_then {C = C} {r = r} {q = q} f a b = record {
    extends = extends_then a.extends b.extends;
    at_most = omega (arith, a.at_most, b.at_most);
    added = λ e. elim (or_cases r q e) [
      | inl g ↦ omega (arith, a.added g, b.at_most)
      | inr g ↦ omega (arith, a.at_most, b.added g)
    ];
    idle = λ e.
        let p = or_parts r q e in
        let x = a.idle p.0 in
        let y = b.idle p.1 in
        (y.0 ∙ x.0, f (subst C (sym y.0) x.1) y.1);
  }
