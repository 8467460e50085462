-- What remains of the lines gets shorter from section to section.
use Rattle.std.proofs.Common.{◌≡◌, ℕ, suc, ◌+◌, ◌-◌, ◌≤◌, List, ◌∷◌, length, drop, Option, Some, None, Result, Ok, Err, IfOk, sym, ap, ◌∙◌, subst, arith}
use Rattle.std.proofs.lemmas.List.{drop-drop, length-drop}
use Rattle.script.specs.Sections.{Later, StopsIn}

-- what remains once some of the lines were answered, or none
abbrev pub Onward : {A : Type 0} → List A → List A → Type 0
Onward before after = (k : ℕ) × (k ≤ length before) × (after ≡ drop k before)

pub onward : {A : Type 0} (xs ys : List A) → Later xs ys → Onward xs ys
onward xs ys h = (suc h.0, omega (arith, h.1), h.2)

-- more lines are answered
pub further : {A : Type 0} (xs ys zs : List A) → Onward xs ys → Later ys zs → Later xs zs
further xs ys zs h l =
    let long : length ys ≡ length xs - h.0 = ap length h.2 ∙ length-drop h.0 xs in
    let sum : h.0 + suc l.0 ≡ suc (h.0 + l.0) = omega arith in
    (h.0 + l.0, omega (arith, long, l.1, h.1), l.2 ∙ ap (drop (suc l.0)) h.2 ∙ drop-drop (suc l.0) h.0 xs ∙ ap (λ n. drop n xs) sum)

-- one line is answered, and those behind it stay
pub one : {A : Type 0} (y : A) (xs ys zs after : List A) → Onward xs ys → ys ≡ y ∷ zs → after ≡ zs → Later xs after
one y xs ys zs after h e kept = further xs ys after h (0, omega (arith, ap length e), kept ∙ sym (ap (drop 1) e))

-- how many lines may still be answered after a stop
abbrev pub left : {A S : Type 0} → List A → Option S → ℕ
left xs None = 0
left xs (Some stop) = suc (length xs)

-- a section goes on behind a stop
pub again : {A S : Type 0} (xs ys zs : List A) (stop : Option S) (s : S) (next : Option S) → StopsIn xs ys stop → stop ≡ Some s → StopsIn ys zs next → StopsIn xs zs next
again xs ys zs stop s None first was then = then
again xs ys zs stop s (Some more) first was then = further xs ys zs (onward xs ys (subst (StopsIn xs ys) was first)) then

pub again_ok : {A S E : Type 0} (xs ys zs : List A) (stop : Option S) (s : S) (next : Result (Option S) E) → StopsIn xs ys stop → stop ≡ Some s → IfOk next (StopsIn ys zs) → IfOk next (StopsIn xs zs)
again_ok xs ys zs stop s (Ok more) first was then = again xs ys zs stop s more first was then
again_ok xs ys zs stop s (Err error) first was then = then
