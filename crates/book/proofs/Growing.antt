-- What a step of one table adds, of the classes or links that have the codes.
use Rattle.std.proofs.Common.{◌≡◌, ℕ, Bool, List, sym, refl, ap, subst, inl, inr, arith}
use Rattle.bits.specs.Relations.{Grows, Inherited, Inherits, Joined, Joins, On, base, flip, pass}
use Rattle.book.specs.Growth.{ClassOn, ClassStep, ClassesPass, LinkOn, LinkStep, LinksPass, Went}
use Rattle.book.specs.Tables.{PairOn}
use Rattle.theory.specs.Closure.{Excluded, classes, link_swap, links, swap}
use Rattle.vocabulary.specs.Codes.{basic_code, basic_below, directed_code, directed_below}
use Rattle.vocabulary.proofs.Codes.{basic_same, directed_same}
use Rattle.vocabulary.specs.Ranges.{BasicFits, DirectedFits}
use Rattle.vocabulary.specs.declared.basic.Basic.{Basic}
use Rattle.vocabulary.specs.declared.basic.Directed.{Directed}
use Rattle.vocabulary.specs.declared.rules.Family.{Family}
use Rattle.vocabulary.specs.declared.rules.Rule.{Rule}

-- ---- what codes say of the values that have them

module _ {K : Type 0} (Fits : K → Type 0) (code : K → ℕ) (same : (x y : K) → Fits x → Fits y → code x ≡ code y → x ≡ y)
    (P : K → K → Type 0) (turn : (x y : K) → P x y → P y x) (stride : ℕ) (s : List ℕ) (old : (x y : K) → PairOn Fits code stride s x y → P x y) where
  start : (x y : K) → Fits x → Fits y → On stride s (code x) (code y) → P x y
  start x y hx hy o = old x y (record { first = hx; second = hy; on = o })

  -- a relation that is symmetric, and that passes on what `to` has to `from`, has all that is inherited
  inherited_in : (from to : K) → Fits from → Fits to → ((z : K) → P to z → P from z) → {m n : ℕ} → Inherited (code from) (code to) (On stride s) m n →
      (x y : K) → Fits x → Fits y → code x ≡ m → code y ≡ n → P x y
  inherited_in from to hf ht step (base {x = m} {y = n} h) x y hx hy ex ey = start x y hx hy (rw (ex, ey) h)
  inherited_in from to hf ht step (flip h) x y hx hy ex ey = turn y x (inherited_in from to hf ht step h y x hy hx ey ex)
  inherited_in from to hf ht step (pass h) x y hx hy ex ey =
      subst (λ (z : K). P z y) (sym (same x from hx hf ex)) (step y (inherited_in from to hf ht step h to y ht hy refl ey))

  joined_in : (a b : K) → Fits a → Fits b → P a b → (x y : K) → Fits x → Fits y → Joined (code a) (code b) (On stride s) (code x) (code y) → P x y
  joined_in a b ha hb p x y hx hy (inl h) = start x y hx hy h
  joined_in a b ha hb p x y hx hy (inr (inl e)) = rw (same x a hx ha e.0, same y b hy hb e.1) p
  joined_in a b ha hb p x y hx hy (inr (inr e)) = rw (same x b hx hb e.0, same y a hy ha e.1) (turn a b p)

  pub all_inherited : (from to : K) → Fits from → Fits to → {r : Bool} {t : List ℕ} → Inherits stride (code from) (code to) r s t → ((z : K) → P to z → P from z) →
      (x y : K) → PairOn Fits code stride t x y → P x y
  all_inherited from to hf ht g step x y o = inherited_in from to hf ht step (g.sound (code x) (code y) o.on) x y o.first o.second refl refl

  pub all_joined : (a b : K) → Fits a → Fits b → {r : Bool} {t : List ℕ} → Joins stride (code a) (code b) r s t → P a b → (x y : K) → PairOn Fits code stride t x y → P x y
  all_joined a b ha hb g p x y o = joined_in a b ha hb p x y o.first o.second (g.sound (code x) (code y) o.on)

-- ---- one table grows, the other stays

pair_kept : {K : Type 0} {Fits : K → Type 0} {code : K → ℕ} {stride : ℕ} {D : ℕ → ℕ → Type 0} {A : List ℕ → Type 0} {r : Bool} {s t : List ℕ} →
    Grows stride D A r s t → (x y : K) → PairOn Fits code stride s x y → PairOn Fits code stride t x y
pair_kept {code = code} g x y o = record { first = o.first; second = o.second; on = g.more (code x) (code y) o.on }

-- a table of basic classes grows
classes_go : {D : ℕ → ℕ → Type 0} {A : List ℕ → Type 0} {r : Bool} {s t : List ℕ} (G : Family → List Rule → Type 0) (C : List ℕ → Type 0) → Grows 2 D A r s t →
    ((family : Family) (rules : List Rule) → G family rules → ((b c : Basic) → PairOn BasicFits basic_code 2 s b c → Excluded family rules (classes b c)) →
    (b c : Basic) → PairOn BasicFits basic_code 2 t b c → Excluded family rules (classes b c)) →
    (A t → C t) → (other : List ℕ) → Went G (λ words. C words.0) r (s, other) (t, other)
classes_go G C g sound done other = record {
  extends = record {
    more = elim [ classes b c ↦ pair_kept g b c | links d e ↦ λ o. o ];
    sound = λ x h old. elim [ classes b c ↦ sound x.0 x.1 h (λ v w. old (classes v w)) b c | links d e ↦ old (links d e) ];
  };
  at_most = omega (arith, g.at_most);
  added = λ e. omega (arith, g.added e);
  idle = λ e. let i = g.idle e in (ap (λ (words : List ℕ). (words, other)) i.0, done i.1);
}

-- a table of directed links grows
links_go : {D : ℕ → ℕ → Type 0} {A : List ℕ → Type 0} {r : Bool} {s t : List ℕ} (G : Family → List Rule → Type 0) (C : List ℕ → Type 0) → Grows 1 D A r s t →
    ((family : Family) (rules : List Rule) → G family rules → ((d e : Directed) → PairOn DirectedFits directed_code 1 s d e → Excluded family rules (links d e)) →
    (d e : Directed) → PairOn DirectedFits directed_code 1 t d e → Excluded family rules (links d e)) →
    (A t → C t) → (other : List ℕ) → Went G (λ words. C words.1) r (other, s) (other, t)
links_go G C g sound done other = record {
  extends = record {
    more = elim [ classes b c ↦ λ o. o | links d e ↦ pair_kept g d e ];
    sound = λ x h old. elim [ classes b c ↦ old (classes b c) | links d e ↦ sound x.0 x.1 h (λ v w. old (links v w)) d e ];
  };
  at_most = omega (arith, g.at_most);
  added = λ e. omega (arith, g.added e);
  idle = λ e. let i = g.idle e in (ap (λ (words : List ℕ). (other, words)) i.0, done i.1);
}

pub narrowed : (from to : Basic) → BasicFits from → BasicFits to → {r : Bool} {s t : List ℕ} → Inherits 2 (basic_code from) (basic_code to) r s t →
    (other : List ℕ) → Went (ClassStep from to) (λ words. ClassesPass words from to) r (s, other) (t, other)
narrowed from to hf ht {s = s} g =
    classes_go (ClassStep from to) (λ words. (c : Basic) → PairOn BasicFits basic_code 2 words to c → PairOn BasicFits basic_code 2 words from c) g
    (λ family rules step old. all_inherited BasicFits basic_code basic_same (λ b c. Excluded family rules (classes b c)) (λ b c e. swap e) 2 s old from to hf ht g step)
    (λ shut c o. record { first = hf; second = o.second; on = shut (basic_below from hf) (basic_code c) (basic_below c o.second) o.on })

pub narrowed_link : (from to : Directed) → DirectedFits from → DirectedFits to → {r : Bool} {s t : List ℕ} → Inherits 1 (directed_code from) (directed_code to) r s t →
    (other : List ℕ) → Went (LinkStep from to) (λ words. LinksPass words from to) r (other, s) (other, t)
narrowed_link from to hf ht {s = s} g =
    links_go (LinkStep from to) (λ words. (e : Directed) → PairOn DirectedFits directed_code 1 words to e → PairOn DirectedFits directed_code 1 words from e) g
    (λ family rules step old. all_inherited DirectedFits directed_code directed_same (λ d e. Excluded family rules (links d e)) (λ d e h. link_swap h) 1 s old from to hf ht g step)
    (λ shut e o. record { first = hf; second = o.second; on = shut (directed_below from hf) (directed_code e) (directed_below e o.second) o.on })

pub excluded : (b c : Basic) → BasicFits b → BasicFits c → {r : Bool} {s t : List ℕ} → Joins 2 (basic_code b) (basic_code c) r s t →
    (other : List ℕ) → Went (λ family rules. Excluded family rules (classes b c)) (λ words. ClassOn words b c) r (s, other) (t, other)
excluded b c hb hc {s = s} g =
    classes_go (λ family rules. Excluded family rules (classes b c)) (λ words. PairOn BasicFits basic_code 2 words b c) g
    (λ family rules p old. all_joined BasicFits basic_code basic_same (λ v w. Excluded family rules (classes v w)) (λ v w e. swap e) 2 s old b c hb hc g p)
    (λ shut. record { first = hb; second = hc; on = shut (basic_below b hb) (basic_below c hc) })

pub excluded_link : (d e : Directed) → DirectedFits d → DirectedFits e → {r : Bool} {s t : List ℕ} → Joins 1 (directed_code d) (directed_code e) r s t →
    (other : List ℕ) → Went (λ family rules. Excluded family rules (links d e)) (λ words. LinkOn words d e) r (other, s) (other, t)
excluded_link d e hd he {s = s} g =
    links_go (λ family rules. Excluded family rules (links d e)) (λ words. PairOn DirectedFits directed_code 1 words d e) g
    (λ family rules p old. all_joined DirectedFits directed_code directed_same (λ v w. Excluded family rules (links v w)) (λ v w h. link_swap h) 1 s old d e hd he g p)
    (λ shut. record { first = hd; second = he; on = shut (directed_below d hd) (directed_below e he) })
