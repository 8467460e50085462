-- Tables grow by sets of questions, one set after another.
use Rattle.std.proofs.Common.{◌≡◌, ℕ, ◌+◌, ◌<◌, ◌⊎◌, Bool, true, false, Decides, List, [], ◌∷◌, ◌++◌, map, length, drop, Some, None, Ok, Err, Result, sym, refl, ap, ◌∙◌, subst, inl, inr, ⊎_elim, append_assoc, append-nil, arith, length-append, below_more}
use Rattle.distinct.proofs.Members.{member_at, place_of}
use Rattle.distinct.specs.Items.{items, spare}
use Rattle.distinct.specs.Puts.{Outcome}
use Rattle.distinct.specs.Repeats.{Absent, Answers, NoRepeats, Present}
use Rattle.distinct.specs.declared.Distinct.{Distinct}
use Rattle.distinct.proofs.Decided.{no_repeats_like, outcome_like}
use Rattle.distinct.specs.declared.Full.{Full}
use Rattle.question.proofs.Exact.{some_none, some_same}
use Rattle.question.specs.Growth.{Below, ByMerge, ByRule, Filled, Grown, Overfull, Same, Taken, atom_at, rows}
use Rattle.question.specs.Records.{query, query_eq, query_eq_same}
use Rattle.question.specs.Steps.{made_by, merged_by, merging, replaced_by}
use Rattle.question.specs.declared.merging.Merger.{Merger}
use Rattle.question.specs.declared.record.Record.{Record}
use Rattle.std.proofs.lemmas.Bool.Decides.{same_from_decides}
use Rattle.std.proofs.lemmas.List.{drop-drop, map_push}
use Rattle.std.proofs.lemmas.Bool.{false≢true}
use Rattle.theory.specs.Questions.{Query}
use Rattle.theory.specs.Tidying.{tidy}
use Rattle.vocabulary.specs.Faults.{number}
use Rattle.vocabulary.specs.declared.faults.Fault.{Fault}
use Rattle.vocabulary.specs.declared.questions.Atom.{Atom}
use Rattle.vocabulary.specs.declared.rules.Rule.{Rule}
use mathlib.Core.List.Memᴰ
use mathlib.Core.List.{Memᴰ}

-- records are equal where their questions are, so what the list answers by `==` it says of questions

abbrev pub record_eq : Record → Record → Bool
record_eq x y = query_eq (query x) (query y)

answers_same : (x y : Record) (r : Bool) → Answers record_eq x y r → Same x y r
answers_same x y r h = subst (λ (b : Bool). Decides b (query x ≡ query y)) (sym h) (query_eq_same (query x) (query y))

same_answers : (x y : Record) (r : Bool) → Same x y r → Answers record_eq x y r
same_answers x y r h = same_from_decides r (record_eq x y) h (query_eq_same (query x) (query y))

pub put_same : (s t : Distinct Record) (x : Record) {r told : Result Bool Full} → r ≡ told → Outcome (Answers record_eq) s x t r → Outcome Same s x t told
put_same s t x e o = subst (Outcome Same s x t) e (outcome_like answers_same s t x _ o)

pub kept_same : (xs ys : List Record) → (NoRepeats (Answers record_eq) xs → NoRepeats (Answers record_eq) ys) → NoRepeats Same xs → NoRepeats Same ys
kept_same xs ys keeps h = no_repeats_like answers_same ys (keeps (no_repeats_like same_answers xs h))

-- what the list without repeats says of records, said of their questions
present_row : (rs : List Record) (r : Record) → Present Same rs r → Memᴰ (query r) (map query rs)
present_row rs r (i, l, e) = subst (λ (q : Query). Memᴰ q (map query rs)) ((e r).0 refl) (Memᴰ.map query (member_at rs i r l))

absent_row : (rs : List Record) (r : Record) → Absent Same rs r → Memᴰ (query r) (map query rs) → ⊥
absent_row rs r h m =
    let (y, k, e) = Memᴰ.of_map query rs m in
    let (i, l, f) = place_of k in
    false≢true ((h i r l).1 (ap query (f r) ∙ e))

-- nothing is put in
grown_none : (S : Query → Type 0) (s t : Distinct Record) → items t ≡ items s → spare t ≡ spare s → length t.places.now ≡ length s.places.now → t.places.ghost_name ≡ s.places.ghost_name → Grown S s t
grown_none S s t e f n l = record {
  more = [];
  is = ap (map query) e ∙ sym (append-nil (rows s));
  sound = λ x k. elim k [ ];
  apart = λ d. subst (NoRepeats Same) (sym e) d;
  left = f;
  size = n;
  lent = l;
}

-- one question is put in: it is new, it stands already, or there is no place for it
pub taken_put : (s t : Distinct Record) (r : Record) (q : Query) → query r ≡ q → (new : Bool) → Outcome Same s r t (Ok new) → (NoRepeats Same (items s) → NoRepeats Same (items t)) →
    length t.places.now ≡ length s.places.now → t.places.ghost_name ≡ s.places.ghost_name → Filled (λ x. x ≡ q) s t
taken_put s t r q e true o d n l =
    let more : rows t ≡ rows s ++ query r ∷ [] = ap (map query) o.2 ∙ map_push query (items s) r in
    record {
      grown = record {
        more = query r ∷ [];
        is = more;
        sound = λ x k. Memᴰ.eq_of_singleton k ∙ e;
        apart = d;
        left = o.3;
        size = n;
        lent = l;
      };
      has = λ x p. subst (λ (ys : List Query). Memᴰ x ys) (sym more) (Memᴰ.append_right (rows s) (Memᴰ.head (p ∙ sym e)));
    }
taken_put s t r q e false o d n l = record {
  grown = grown_none (λ x. x ≡ q) s t o.1 o.2 n l;
  has = λ x p. Memᴰ.cast (p ∙ sym e) (subst (λ (rs : List Record). Memᴰ (query r) (map query rs)) (sym o.1) (present_row (items s) r o.0));
}

pub taken_full : (s t : Distinct Record) (r : Record) (q : Query) → query r ≡ q → {full : Full} → Outcome Same s r t (Err full) → length t.places.now ≡ length s.places.now → t.places.ghost_name ≡ s.places.ghost_name → Overfull (λ x. x ≡ q) s t
taken_full s t r q e {full} o n l = record {
  grown = grown_none (λ x. x ≡ q) s t o.2 o.3 n l;
  full = o.3 ∙ o.1;
  another = query r;
  one = e;
  absent = λ m. absent_row (items s) r o.0 (subst (λ (rs : List Record). Memᴰ (query r) (map query rs)) o.2 m);
}

-- nothing is put in, of an empty set
filled_none : (S : Query → Type 0) (t : Distinct Record) → ((x : Query) → S x → ⊥) → Filled S t t
filled_none S t empty = record { grown = grown_none S t t refl refl refl refl; has = λ x e. absurd (empty x e) }

-- the same set in other words
grown_set : (S U : Query → Type 0) (s t : Distinct Record) → ((x : Query) → S x → U x) → Grown S s t → Grown U s t
grown_set S U s t to g = record { more = g.more; is = g.is; sound = λ x k. to x (g.sound x k); apart = g.apart; left = g.left; size = g.size; lent = g.lent }

filled_set : (S U : Query → Type 0) (s t : Distinct Record) → ((x : Query) → S x → U x) → ((x : Query) → U x → S x) → Filled S s t → Filled U s t
filled_set S U s t to from f = record { grown = grown_set S U s t to f.grown; has = λ x u. f.has x (from x u) }

overfull_set : (S U : Query → Type 0) (s t : Distinct Record) → ((x : Query) → S x → U x) → Overfull S s t → Overfull U s t
overfull_set S U s t to o = record { grown = grown_set S U s t to o.grown; full = o.full; another = o.another; one = to o.another o.one; absent = o.absent }

-- one set after another
grown_then : (S S' U : Query → Type 0) (s t u : Distinct Record) → ((x : Query) → S x → U x) → ((x : Query) → S' x → U x) → Grown S s t → Grown S' t u → Grown U s u
grown_then S S' U s t u left right a b = record {
  more = a.more ++ b.more;
  is = b.is ∙ ap (λ (ys : List Query). ys ++ b.more) a.is ∙ append_assoc (rows s) a.more b.more;
  sound = λ x k. ⊎_elim (λ (p : Memᴰ x a.more). left x (a.sound x p)) (λ (p : Memᴰ x b.more). right x (b.sound x p)) (Memᴰ.append_cases a.more k);
  apart = λ d. b.apart (a.apart d);
  left = b.left ∙ ap (drop (length b.more)) a.left ∙ drop-drop (length b.more) (length a.more) (spare s)
      ∙ ap (λ (n : ℕ). drop n (spare s)) (sym (length-append a.more b.more));
  size = b.size ∙ a.size;
  lent = b.lent ∙ a.lent;
}

filled_then : (S S' U : Query → Type 0) (s t u : Distinct Record) →
    ((x : Query) → U x → S x ⊎ S' x) → ((x : Query) → S x → U x) → ((x : Query) → S' x → U x) → Filled S s t → Filled S' t u → Filled U s u
filled_then S S' U s t u split left right f g = record {
  grown = grown_then S S' U s t u left right f.grown g.grown;
  has = λ x v. ⊎_elim
      (λ (p : S x). subst (λ (ys : List Query). Memᴰ x ys) (sym g.grown.is) (Memᴰ.append_left g.grown.more (f.has x p)))
      (λ (p : S' x). g.has x p) (split x v);
}

overfull_then : (S S' U : Query → Type 0) (s t u : Distinct Record) → ((x : Query) → S x → U x) → ((x : Query) → S' x → U x) → Filled S s t → Overfull S' t u → Overfull U s u
overfull_then S S' U s t u left right f o = record {
  grown = grown_then S S' U s t u left right f.grown o.grown;
  full = o.full;
  another = o.another;
  one = right o.another o.one;
  absent = o.absent;
}

-- a loop over the sets P k: its start, a turn, and a turn that finds no place
pub filled_start : (P : ℕ → Query → Type 0) (t : Distinct Record) → Filled (Below P 0) t t
filled_start P t = filled_none (Below P 0) t (λ x b. absurd (omega (arith, b.low)))

below_split : (P : ℕ → Query → Type 0) (k : ℕ) (x : Query) → Below P (k + 1) x → Below P k x ⊎ P k x
below_split P k x b = below_more (λ i. P i x → Below P k x ⊎ P k x) k (λ i h p. inl (record { place = i; low = h; what = p })) (λ p. inr p) b.place b.low b.what

pub filled_next : (P : ℕ → Query → Type 0) (k : ℕ) (s t u : Distinct Record) → Filled (Below P k) s t → Filled (P k) t u → Filled (Below P (k + 1)) s u
filled_next P k s t u f g =
    filled_then (Below P k) (P k) (Below P (k + 1)) s t u (below_split P k) (λ x b. record { place = b.place; low = omega (arith, b.low); what = b.what })
    (λ x p. record { place = k; low = omega arith; what = p }) f g

pub overfull_next : (P : ℕ → Query → Type 0) (k l : ℕ) (s t u : Distinct Record) → k < l → Filled (Below P k) s t → Overfull (P k) t u → Overfull (Below P l) s u
overfull_next P k l s t u h f o =
    overfull_then (Below P k) (P k) (Below P l) s t u (λ x b. record { place = b.place; low = omega (arith, b.low); what = b.what }) (λ x p. record { place = k; low = h; what = p }) f o

-- one rule at one atom
module _ (rule : Rule) (p : Query) (i : ℕ) (a b : Atom) (r : Query) (s t : Distinct Record) (at : a ≡ atom_at p i) (made : Some b ≡ made_by rule a) (e : r ≡ replaced_by p i b) where
  ruled_to : (x : Query) → x ≡ tidy r → ByRule rule p i x
  ruled_to x h = record { atom = b; made = ap (made_by rule) (sym at) ∙ sym made; is = h ∙ ap tidy e }

  ruled_from : (x : Query) → ByRule rule p i x → x ≡ tidy r
  ruled_from x w =
      let same : w.atom ≡ b = some_same (sym w.made ∙ ap (made_by rule) (sym at) ∙ sym made) in
      w.is ∙ ap (λ (c : Atom). tidy (replaced_by p i c)) same ∙ sym (ap tidy e)

  pub filled_ruled : Filled (λ x. x ≡ tidy r) s t → Filled (ByRule rule p i) s t
  filled_ruled = filled_set (λ x. x ≡ tidy r) (ByRule rule p i) s t ruled_to ruled_from

  pub over_ruled : Overfull (λ x. x ≡ tidy r) s t → Overfull (ByRule rule p i) s t
  over_ruled = overfull_set (λ x. x ≡ tidy r) (ByRule rule p i) s t ruled_to

pub none_ruled : (rule : Rule) (p : Query) (i : ℕ) (a : Atom) (t : Distinct Record) → a ≡ atom_at p i → None ≡ made_by rule a → Filled (ByRule rule p i) t t
none_ruled rule p i a t at made = filled_none (ByRule rule p i) t (λ x w. some_none (sym w.made ∙ ap (made_by rule) (sym at) ∙ sym made))

-- two atoms merged
module _ (p : Query) (i j : ℕ) (g : Merger) (r : Query) (s t : Distinct Record) (lt : i < j) (made : merging (atom_at p i) (atom_at p j) ≡ Some g) (e : r ≡ merged_by p i j g) where
  merged_to : (x : Query) → x ≡ tidy r → ByMerge p i j x
  merged_to x h = record { order = lt; merger = g; made = made; is = h ∙ ap tidy e }

  merged_from : (x : Query) → ByMerge p i j x → x ≡ tidy r
  merged_from x w = w.is ∙ ap (λ (c : Merger). tidy (merged_by p i j c)) (some_same (sym w.made ∙ made)) ∙ sym (ap tidy e)

  pub filled_merged : Filled (λ x. x ≡ tidy r) s t → Filled (ByMerge p i j) s t
  filled_merged = filled_set (λ x. x ≡ tidy r) (ByMerge p i j) s t merged_to merged_from

  pub over_merged : Overfull (λ x. x ≡ tidy r) s t → Overfull (ByMerge p i j) s t
  over_merged = overfull_set (λ x. x ≡ tidy r) (ByMerge p i j) s t merged_to

pub none_merged : (p : Query) (i j : ℕ) (t : Distinct Record) → merging (atom_at p i) (atom_at p j) ≡ None → Filled (ByMerge p i j) t t
none_merged p i j t made = filled_none (ByMerge p i j) t (λ x w. some_none (sym w.made ∙ made))

pub later_start : (p : Query) (i : ℕ) (t : Distinct Record) → Filled (Below (λ j. ByMerge p i j) (i + 1)) t t
later_start p i t = filled_none (Below (λ j. ByMerge p i j) (i + 1)) t (λ x b. absurd (omega (arith, b.low, b.what.order)))

-- all rules first, and then all merges
pub taken_next : {X : Type 0} (S S' : Query → Type 0) (s t u : Distinct Record) (o : Result X Fault) → Filled S s t → Taken S' t u o → Taken (λ x. S x ⊎ S' x) s u o
taken_next S S' s t u (Ok x) f g = filled_then S S' (λ y. S y ⊎ S' y) s t u (λ y v. v) (λ y a. inl a) (λ y b. inr b) f g
taken_next S S' s t u (Err e) f g = (g.0, overfull_then S S' (λ y. S y ⊎ S' y) s t u (λ y a. inl a) (λ y b. inr b) f g.1)

pub over_next : (S S' : Query → Type 0) (s t : Distinct Record) → Overfull S s t → Overfull (λ x. S x ⊎ S' x) s t
over_next S S' s t o = overfull_set S (λ y. S y ⊎ S' y) s t (λ y a. inl a) o

-- the exit of a `?`: the fault that came is handed on
pub at_break : {X : Type 0} (S : Query → Type 0) (s t : Distinct Record) (r : Result X Fault) (f g : Fault) → r ≡ Err f → f ≡ g → number g ≡ 11 → Overfull S s t → Taken S s t r
at_break {X} S s t r f g e h n o = subst (λ (v : Result X Fault). Taken S s t v) (sym (e ∙ ap Err h)) (n, o)
