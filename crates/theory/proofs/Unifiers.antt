-- Unifiers: what they do to terms, and to choices of things for variables.
use Rattle.std.specs.Prelude.{Option, Some, None}
use Rattle.std.proofs.Common.{◌≡◌, ℕ, Bool, true, false, cond, eqb, ltb, ◌⊎◌, sym, refl, ap, ◌∙◌, subst, inl, inr}
use Rattle.std.proofs.lemmas.Bool.{eqb-true, eq-eqb, cond_both, cond-true}
use Rattle.theory.proofs.Terms.{Reflects}
use Rattle.theory.specs.Questions.{Serves}
use Rattle.theory.specs.Rewritings.{unify, Agrees, apply, filled}
use Rattle.theory.specs.Worlds.{Shape}
use Rattle.vocabulary.specs.declared.numbers.Name.{Name}
use Rattle.vocabulary.specs.declared.questions.Term.{Term}
use Rattle.vocabulary.specs.declared.questions.Term.TheVariants.{Variable, Constant, Open}
use Rattle.vocabulary.specs.declared.questions.Unifier.{Unifier}
use Rattle.vocabulary.specs.declared.questions.Unifier.TheVariants.{Trivial, Binds}

-- the change reflects what serves: of every choice of things after it in one before it
abbrev pub PullsBack : Shape → (Term → Term) → Type 0
PullsBack s f = (v : ℕ → s.Carrier) → (w : ℕ → s.Carrier) × Reflects s.thing w v f

-- a term other than the open one
abbrev pub NotOpen : Term → Type 0
NotOpen Open = ⊥
NotOpen (Variable n) = Unit {0}
NotOpen (Constant a) = Unit {0}

-- no variable is bound to the open term, and unifying never does so
abbrev pub Proper : Option Unifier → Type 0
Proper None = Unit {0}
Proper (Some Trivial) = Unit {0}
Proper (Some (Binds n u)) = NotOpen u

pub proper : (t u : Term) → Proper (unify t u)
proper Open u = tt
proper (Variable m) Open = tt
proper (Variable m) (Variable n) = cond_both (ltb m n) (Some (Binds n (Variable m))) (Some (Binds m (Variable n))) Proper (λ e. tt) (λ e. tt)
proper (Variable m) (Constant a) = tt
proper (Constant a) Open = tt
proper (Constant a) (Variable n) = tt
proper (Constant a) (Constant b) = cond_both (eqb a.0 b.0) (Some Trivial) None Proper (λ e. tt) (λ e. tt)

-- the thing that serves for a term that is not open
value : (s : Shape) → (ℕ → s.Carrier) → Term → s.Carrier
value s v (Variable n) = v n
value s v (Constant a) = s.thing a
value s v Open = v 0

value_serves : (s : Shape) (v : ℕ → s.Carrier) (u : Term) (x : s.Carrier) → NotOpen u → Serves s.thing v u x → value s v u ≡ x
unfolding value
value_serves s v (Variable n) x o h = h
value_serves s v (Constant a) x o h = h
value_serves s v Open x o h = absurd o

-- what a unifier does to terms pulls choices back, and so do two in a row
pub apply_pulls_back : (s : Shape) (k : Option Unifier) → Proper k → PullsBack s (apply k)
apply_pulls_back s None p v = (v, λ t x h. h)
apply_pulls_back s (Some Trivial) p v = (v, λ t x h. h)
apply_pulls_back s (Some (Binds n u)) p v = (λ m. cond (eqb m n) (value s v u) (v m), back)
  where
    one : (m : ℕ) (x : s.Carrier) (b : Bool) → Serves s.thing v (cond b u (Variable m)) x → cond b (value s v u) (v m) ≡ x
    one m x true h = value_serves s v u x p h
    one m x false h = h

    back : Reflects s.thing (λ m. cond (eqb m n) (value s v u) (v m)) v (apply (Some (Binds n u)))
    back (Variable m) x h = one m x (eqb m n) h
    back (Constant a) x h = h
    back Open x h = h

pub both_pull_back : (s : Shape) (f g : Term → Term) → PullsBack s f → PullsBack s g → PullsBack s (λ t. g (f t))
both_pull_back s f g p q v =
    let k = q v in
    let l = p k.0 in
    (l.0, λ t x h. l.1 t x (k.1 (f t) x h))

-- each of two unified terms is open or becomes what their merged term becomes
abbrev pub MadeEqual : Option Unifier → Term → Term → Type 0
MadeEqual k t u = (t ≡ Open) ⊎ (apply k t ≡ apply k u)

pub unify_equal : (t u : Term) → Agrees (unify t u) → MadeEqual (unify t u) t (filled t u) × MadeEqual (unify t u) u (filled t u)
unify_equal Open u n = (inl refl, inr refl)
unify_equal (Variable m) Open n = (inr refl, inl refl)
unify_equal (Variable m) (Variable k) n = (
  inr refl,
  cond_both (ltb m k) (Some (Binds k (Variable m))) (Some (Binds m (Variable k))) (λ (j : Option Unifier). MadeEqual j (Variable k) (Variable m))
      (λ e. inr (cond-true (eqb k k) (Variable m) (Variable k) (eq-eqb k k refl) ∙ sym (same (eqb m k) (Variable m))))
      (λ e. inr (same (eqb k m) (Variable k) ∙ sym (cond-true (eqb m m) (Variable k) (Variable m) (eq-eqb m m refl)))),
)
  where
    same : (b : Bool) (t : Term) → cond b t t ≡ t
    same b t = cond_both b t t (λ (u : Term). u ≡ t) (λ e. refl) (λ e. refl)
unify_equal (Variable m) (Constant a) n = (inr refl, inr (sym (cond-true (eqb m m) (Constant a) (Variable m) (eq-eqb m m refl))))
unify_equal (Constant a) Open n = (inr refl, inl refl)
unify_equal (Constant a) (Variable k) n = (inr refl, inr (cond-true (eqb k k) (Constant a) (Variable k) (eq-eqb k k refl)))
unify_equal (Constant a) (Constant b) n = (inr refl, pick (eqb a.0 b.0) refl n)
  where
    pick : (t : Bool) → eqb a.0 b.0 ≡ t → Agrees (cond t (Some Trivial) None) → MadeEqual (cond t (Some Trivial) None) (Constant b) (Constant a)
    pick true e n = inr (ap (λ (i : ℕ). Constant (record { 0 = i })) (sym (eqb-true a.0 b.0 e)))
    pick false e n = absurd n

-- what becomes of the open term, of a variable, of a name and of a filled term
apply_open : (k : Option Unifier) → apply k Open ≡ Open
apply_open None = refl
apply_open (Some Trivial) = refl
apply_open (Some (Binds n u)) = refl

stays_filled : (t u : Term) → NotOpen t → t ≡ filled t u
stays_filled (Variable n) u o = refl
stays_filled (Constant a) u o = refl
stays_filled Open u o = absurd o

pub apply_variable : (k : Option Unifier) → Proper k → (n : ℕ) → NotOpen (apply k (Variable n))
apply_variable None p n = tt
apply_variable (Some Trivial) p n = tt
apply_variable (Some (Binds m w)) p n = cond_both (eqb n m) w (Variable n) NotOpen (λ e. p) (λ e. tt)

pub apply_constant : (k : Option Unifier) (a : Name) → apply k (Constant a) ≡ Constant a
apply_constant None a = refl
apply_constant (Some Trivial) a = refl
apply_constant (Some (Binds n u)) a = refl

pub apply_filled : (k : Option Unifier) → Proper k → (t u : Term) → apply k (filled t u) ≡ filled (apply k t) (apply k u)
apply_filled k p Open u = ap (λ (w : Term). filled w (apply k u)) (sym (apply_open k))
apply_filled k p (Variable n) u = stays_filled (apply k (Variable n)) (apply k u) (apply_variable k p n)
apply_filled k p (Constant a) u = apply_constant k a ∙ ap (λ (w : Term). filled w (apply k u)) (sym (apply_constant k a))

-- what becomes of t is open or what becomes of u; then what serves for that serves for t
abbrev pub Meets : (Term → Term) → Term → Term → Type 0
Meets f t u = (f t ≡ Open) ⊎ (f t ≡ f u)

pub met : (s : Shape) (v w : ℕ → s.Carrier) (f : Term → Term) → Reflects s.thing w v f →
    (t u : Term) → Meets f t u → (x : s.Carrier) → Serves s.thing v (f u) x → Serves s.thing w t x
met s v w f pull t u (inl e) x h = pull t x (subst (λ (k : Term). Serves s.thing v k x) (sym e) tt)
met s v w f pull t u (inr e) x h = pull t x (subst (λ (k : Term). Serves s.thing v k x) (sym e) h)

-- unified terms meet, those of a first unifier under a second too
pub one_meets : (k : Option Unifier) (t u : Term) → MadeEqual k t u → Meets (apply k) t u
one_meets k t u (inl e) = inl (ap (apply k) e ∙ apply_open k)
one_meets k t u (inr e) = inr e

pub first_meets : (k j : Option Unifier) (t u : Term) → MadeEqual k t u → Meets (λ w. apply j (apply k w)) t u
first_meets k j t u (inl e) = inl (ap (λ w. apply j (apply k w)) e ∙ (ap (apply j) (apply_open k) ∙ apply_open j))
first_meets k j t u (inr e) = inr (ap (apply j) e)

pub second_meets : (k j : Option Unifier) (t u r : Term) → apply k u ≡ r → MadeEqual j (apply k t) r → Meets (λ w. apply j (apply k w)) t u
second_meets k j t u r p (inl e) = inl (ap (apply j) e ∙ apply_open j)
second_meets k j t u r p (inr e) = inr (e ∙ ap (apply j) (sym p))
