-- The table is its own list of work: what one step makes of the questions before a place is in it.
use Rattle.std.proofs.Common.{◌≡◌, ℕ, zero, suc, ◌+◌, ◌<◌, ◌≤◌, List, [], ◌∷◌, ◌++◌, map, length, get_or, take, drop, Some, None, Option, Err, Result, sym, refl, ap, ◌∙◌, subst, ⊎_elim, append-nil, arith, length-append, take_all}
use Rattle.distinct.proofs.Members.{member_at}
use Rattle.distinct.proofs.Fronts.{count_within, take_count}
use Rattle.distinct.specs.Items.{items, spare}
use Rattle.distinct.specs.Repeats.{NoRepeats}
use Rattle.distinct.specs.declared.Distinct.{Distinct}
use Rattle.question.proofs.Exact.{some_none, some_same}
use Rattle.question.proofs.Stepping.{next_step, step_next}
use Rattle.question.specs.Enumerations.{AllRewritings, Different, Enumerated, MoreRewritings}
use Rattle.question.specs.Growth.{Filled, Grown, Next, Overfull, Same, rows}
use Rattle.question.specs.Records.{query}
use Rattle.question.specs.Work.{Worked, Working}
use Rattle.question.specs.declared.record.Record.{Record}
use Rattle.std.proofs.lemmas.List.{drop-drop, get_or-map, length-map, take-append-drop, take_more}
use Rattle.std.proofs.lemmas.Bool.{false≢true}
use Rattle.std.specs.Slice.{IsItemAt}
use Rattle.std.specs.Option.{option_copied}
use Rattle.theory.specs.Questions.{Query}
use Rattle.theory.specs.Rewritings.{OneStep, Rewriting, itself, onward}
use Rattle.theory.specs.Tidying.{tidy}
use Rattle.vocabulary.specs.Faults.{number}
use Rattle.vocabulary.specs.declared.faults.Fault.{Fault}
use Rattle.vocabulary.specs.declared.rules.Rule.{Rule}
use denote.Ref.{Bor}
use lib.Seq.{take-append-le}
use mathlib.Core.List.{Memᴰ}
use native.Mathlib.Nat.{sub-zero}

no_rows : (d : Distinct Record) → items d ≡ [] → rows d ≡ []
no_rows d e = ap (map query) e

none_apart : (d : Distinct Record) → items d ≡ [] → NoRepeats Same (items d)
none_apart d e i j r h = absurd (let l = h.1 in omega (arith, ap length e))

-- a table that was empty
pub record Blank (before : List Record) (d : Distinct Record) : Type 0 where
  pub empty : items d ≡ []
  pub places : spare d ≡ before
  pub room : length d.places.now ≡ length before

left_grown : (before : List Record) (S : Query → Type 0) (s t : Distinct Record) → spare s ≡ drop (length (rows s)) before → Grown S s t → spare t ≡ drop (length (rows t)) before
left_grown before S s t e g =
    g.left ∙ ap (drop (length g.more)) e ∙ drop-drop (length g.more) (length (rows s)) before
    ∙ ap (λ (n : ℕ). drop n before) (sym (ap length g.is ∙ length-append (rows s) g.more))

left_blank : (before : List Record) (d : Distinct Record) → Blank before d → spare d ≡ drop (length (rows d)) before
left_blank before d b = b.places ∙ ap (λ (qs : List Query). drop (length qs) before) (sym (no_rows d b.empty))

pub working_start : (rules : List Rule) (q : Query) (before : List Record) (s t : Distinct Record) → Blank before s → Filled (λ x. x ≡ tidy q) s t → Working rules q before t 0
working_start rules q before s t b f =
    let g = f.grown in
    record {
      reached = omega arith;
      sound = λ x m. let h = g.sound x (subst (λ (ys : List Query). Memᴰ x ys) (g.is ∙ ap (λ (ys : List Query). ys ++ g.more) (no_rows s b.empty)) m) in
          subst (λ (y : Query). Rewriting rules q y) (sym h) itself;
      start = f.has (tidy q) refl;
      closed = λ x m. elim m [ ];
      apart = g.apart (none_apart s b.empty);
      left = left_grown before (λ x. x ≡ tidy q) s t (left_blank before s b) g;
      size = g.size ∙ b.room;
    }

length_rows : (d : Distinct Record) → length (rows d) ≡ length (items d)
length_rows d = length-map (items d) query

-- the question whose turn it is
record Turn (d : Distinct Record) (k : ℕ) (r : Query) : Type 0 where
  pub here : Memᴰ r (rows d)
  pub front : take (k + 1) (rows d) ≡ take k (rows d) ++ r ∷ []

turn : (e : Record) (d : Distinct Record) (k : ℕ) (r : Query) → k < length (items d) → r ≡ query (get_or (items d) k e) → Turn d k r
turn e d k r lt is =
    let n = length_rows d in
    let at : r ≡ get_or (rows d) k (query e) = is ∙ sym (get_or-map query (items d) k e (query e) lt) in
    record {
      here = mathlib.Core.List.Memᴰ.cast at (member_at (rows d) k (query e) (omega arith));
      front = take_more (rows d) k (query e) (omega arith) ∙ ap (λ (x : Query). take k (rows d) ++ x ∷ []) (sym at);
    }

-- the record that was read, or that there is none
pub read_at : (rs is : List Record) (k : ℕ) (o : Option (Bor Record)) {c : Option Record} {r : Record} → rs ≡ is → IsItemAt rs k o → c ≡ option_copied o → c ≡ Some r → (k < length is) × (query r ≡ query (get_or is k r))
read_at rs is k None e h f g = absurd (some_none (sym g ∙ f))
read_at rs is k (Some b) {r = r} e h f g =
    let (low, at) = h.3 in
    subst (λ (xs : List Record). (k < length xs) × (query r ≡ query (get_or xs k r))) e (low, ap query (sym (some_same (sym f ∙ g)) ∙ at r))

pub read_past : (rs is : List Record) (k : ℕ) (o : Option (Bor Record)) {c : Option Record} → rs ≡ is → IsItemAt rs k o → c ≡ option_copied o → c ≡ None → length is ≤ k
read_past rs is k None e h f g = subst (λ (xs : List Record). length xs ≤ k) e h.3
read_past rs is k (Some b) e h f g = absurd (some_none (sym f ∙ g))

-- what the step made, if it is in the table, is a rewriting
step_sound : (rules : List Rule) (q : Query) (d t : Distinct Record) (r : Query) → ((x : Query) → Memᴰ x (rows d) → Rewriting rules q x) → Memᴰ r (rows d) →
    Grown (Next rules r) d t → (x : Query) → Memᴰ x (rows t) → Rewriting rules q x
step_sound rules q d t r sound here g x m =
    ⊎_elim (λ (h : Memᴰ x (rows d)). sound x h)
    (λ (h : Memᴰ x g.more). let s = next_step rules r x (g.sound x h) in
    subst (λ (y : Query). Rewriting rules q y) (sym s.is) (onward (sound r here) s.step))
    (mathlib.Core.List.Memᴰ.append_cases (rows d) (subst (λ (ys : List Query). Memᴰ x ys) g.is m))

pub working_turn : (e : Record) (rules : List Rule) (q : Query) (before : List Record) (r : Query) (s t : Distinct Record) (k : ℕ) →
    k < length (items s) → r ≡ query (get_or (items s) k e) → Working rules q before s k → Filled (Next rules r) s t → Working rules q before t (k + 1)
working_turn e rules q before r s t k lt is w f =
    let g = f.grown in
    let at = turn e s k r lt is in
    let kept : (x : Query) → Memᴰ x (rows s) → Memᴰ x (rows t) = λ x p. subst (λ (ys : List Query). Memᴰ x ys) (sym g.is) (mathlib.Core.List.Memᴰ.append_left g.more p) in
    let front : take (k + 1) (rows t) ≡ take k (rows s) ++ r ∷ []
    = ap (take (k + 1)) g.is ∙ take-append-le (k + 1) (rows s) g.more (omega (arith, length_rows s)) ∙ at.front in
    record {
      reached = omega (arith, ap length g.is, length-append (rows s) g.more, length_rows s, length_rows t);
      sound = step_sound rules q s t r w.sound at.here g;
      start = kept (tidy q) w.start;
      closed = λ x p y o. ⊎_elim (λ (h : Memᴰ x (take k (rows s))). kept (tidy y) (w.closed x h y o))
          (λ (h : Memᴰ x (r ∷ [])). f.has (tidy y) (step_next rules (subst (λ (z : Query). OneStep rules z y) (mathlib.Core.List.Memᴰ.eq_of_singleton h) o)))
          (mathlib.Core.List.Memᴰ.append_cases (take k (rows s)) (subst (λ (ys : List Query). Memᴰ x ys) front p));
      apart = g.apart w.apart;
      left = left_grown before (Next rules r) s t w.left g;
      size = g.size ∙ w.size;
    }

different : (rs : List Record) → NoRepeats Same rs → Different rs
different rs h i j d l e = false≢true ((h i j d l).1 e)

-- what lies behind the items
behind : {X : Type 0} (n : ℕ) (xs : List X) → drop (length (take n xs)) xs ≡ drop n xs
behind zero xs = refl
behind (suc n) [] = refl
behind (suc n) (x ∷ xs) = behind n xs

pub working_end : (rules : List Rule) (q : Query) (before : List Record) (d : Distinct Record) (k n : ℕ) → n ≡ length (items d) → n ≤ k → Working rules q before d k → AllRewritings rules q before d.places.now n
working_end rules q before d k n e le w = record {
  fits = count_within d.len d.places.now e;
  sound = λ x m. w.sound x (subst (λ (rs : List Record). Memᴰ x (map query rs)) is m);
  complete = λ x p. subst (λ (rs : List Record). Memᴰ x (map query rs)) (sym is) (all x p);
  different = subst Different (sym is) (different (items d) w.apart);
  untouched = ap (λ (m : ℕ). drop m d.places.now) e ∙ behind d.len d.places.now ∙ w.left ∙ ap (λ (m : ℕ). drop m before) (length_rows d ∙ sym e);
}
  where
    is : take n d.places.now ≡ items d
    is = ap (λ (m : ℕ). take m d.places.now) (sym (sub-zero n)) ∙ take_count d.len d.places.now e

    every : (x : Query) → Memᴰ x (rows d) → Memᴰ x (take k (rows d))
    every x m = subst (λ (ys : List Query). Memᴰ x ys) (sym (take_all k (rows d) (omega (arith, length_rows d)))) m

    all : (x : Query) → Rewriting rules q x → Memᴰ x (rows d)
    all x itself = w.start
    all x (onward {p = p} {r = r} was s) = w.closed p (every p (all p was)) r s

-- a full table
all_items : (d : Distinct Record) → spare d ≡ [] → items d ≡ d.places.now
all_items d e = sym (append-nil (items d)) ∙ ap (λ (rs : List Record). items d ++ rs) (sym e) ∙ take-append-drop d.len d.places.now

over : (rules : List Rule) (q : Query) (S : Query → Type 0) (s t : Distinct Record) → ((x : Query) → Memᴰ x (rows t) → Rewriting rules q x) → ((x : Query) → S x → Rewriting rules q x) →
    NoRepeats Same (items s) → Overfull S s t → MoreRewritings rules q t.places.now
over rules q S s t sound one apart o =
    let is = all_items t o.full in
    record {
      sound = λ x m. sound x (subst (λ (rs : List Record). Memᴰ x (map query rs)) (sym is) m);
      different = subst Different is (different (items t) (o.grown.apart apart));
      another = o.another;
      one = one o.another o.one;
      absent = λ m. o.absent (subst (λ (rs : List Record). Memᴰ o.another (map query rs)) (sym is) m);
    }

pub start_over : (rules : List Rule) (q : Query) (before : List Record) (s t : Distinct Record) → Blank before s → Overfull (λ x. x ≡ tidy q) s t → MoreRewritings rules q t.places.now
start_over rules q before s t b o =
    let one : (x : Query) → x ≡ tidy q → Rewriting rules q x = λ x h. subst (λ (y : Query). Rewriting rules q y) (sym h) itself in
    let g = o.grown in
    over rules q (λ x. x ≡ tidy q) s t
    (λ x m. one x (g.sound x (subst (λ (ys : List Query). Memᴰ x ys) (g.is ∙ ap (λ (ys : List Query). ys ++ g.more) (no_rows s b.empty)) m)))
    one (none_apart s b.empty) o

pub working_over : (e : Record) (rules : List Rule) (q : Query) (before : List Record) (r : Query) (s t : Distinct Record) (k : ℕ) →
    k < length (items s) → r ≡ query (get_or (items s) k e) → Working rules q before s k → Overfull (Next rules r) s t → MoreRewritings rules q t.places.now
working_over e rules q before r s t k lt is w o =
    let at = turn e s k r lt is in
    over rules q (Next rules r) s t (step_sound rules q s t r w.sound at.here o.grown)
    (λ x n. let p = next_step rules r x n in subst (λ (y : Query). Rewriting rules q y) (sym p.is) (onward (w.sound r at.here) p.step))
    w.apart o

-- the exits of a `?`
pub worked_exit : {X : Type 0} (rules : List Rule) (q : Query) (before : List Record) (d : Distinct Record) (r : Result X Fault) (f g : Fault) → r ≡ Err f → f ≡ g → number g ≡ 11 →
    MoreRewritings rules q d.places.now → Worked rules q before d r
worked_exit {X} rules q before d r f g e h n m = subst (λ (v : Result X Fault). Worked rules q before d v) (sym (e ∙ ap Err h)) (n, m)

pub at_exit : (rules : List Rule) (q : Query) (before after : List Record) (r : Result ℕ Fault) (f g : Fault) → r ≡ Err f → f ≡ g → number g ≡ 11 → MoreRewritings rules q after → Enumerated rules q before after r
at_exit rules q before after r f g e h n m = subst (λ (v : Result ℕ Fault). Enumerated rules q before after v) (sym (e ∙ ap Err h)) (n, m)

-- what the places hold at the exit is what the table held
pub held : (rules : List Rule) (q : Query) (before y : List Record) (r : Result ℕ Fault) {x : List Record} → Enumerated rules q before y r → x ≡ y → Enumerated rules q before x r
held rules q before y r h e = subst (λ (v : List Record). Enumerated rules q before v r) (sym e) h

pub held_all : {rules : List Rule} {q : Query} {before x y : List Record} {n : ℕ} → AllRewritings rules q before y n → x ≡ y → AllRewritings rules q before x n
held_all {rules} {q} {before} {n = n} h e = subst (λ (v : List Record). AllRewritings rules q before v n) (sym e) h

pub blank : (before : List Record) (d : Distinct Record) → items d ≡ [] → spare d ≡ before → length d.places.now ≡ length before → Blank before d
blank before d e f n = record { empty = e; places = f; room = n }
