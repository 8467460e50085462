-- What `==` answers of rules, facts, terms and atoms: whether kind and numbers are the same.
use Rattle.std.specs.Prelude.{◌≡◌, ℕ, Bool, true, false, ◌==◌, ◌&&◌, Decides, refl}
use Rattle.std.proofs.Common.{sym, ap, subst}
use Rattle.std.proofs.lemmas.Bool.Decides.{Decides-eqb, Decides-and}
use Rattle.vocabulary.specs.declared.numbers.Class.{Class}
use Rattle.vocabulary.specs.declared.numbers.Link.{Link}
use Rattle.vocabulary.specs.declared.numbers.Name.{Name}
use mathlib.Core.Bool.{true≢false}
use Rattle.vocabulary.specs.declared.basic.Basic.{Basic}
use Rattle.vocabulary.specs.declared.basic.Basic.TheVariants.{Named, Start}
use Rattle.vocabulary.specs.declared.basic.Directed.{Directed}
use Rattle.vocabulary.specs.declared.basic.Directed.TheVariants.{Forward, Backward}
use Rattle.vocabulary.specs.declared.facts.Fact.{Fact}
use Rattle.vocabulary.specs.declared.facts.Fact.TheVariants.{InClass, Linked}
use Rattle.vocabulary.specs.declared.questions.Atom.{Atom}
use Rattle.vocabulary.specs.declared.questions.Atom.TheVariants.{IsIn, Joins}
use Rattle.vocabulary.specs.declared.questions.Term.{Term}
use Rattle.vocabulary.specs.declared.questions.Term.TheVariants.{Variable, Constant, Open}
use Rattle.vocabulary.specs.declared.rules.Rule.{Rule}
use Rattle.vocabulary.specs.declared.rules.Rule.TheVariants.{Within, Apart, LinkWithin, LinkApart, Single}

abbrev pub directed_eq : Directed → Directed → Bool
directed_eq (Forward l) (Forward m) = l.0 == m.0
directed_eq (Backward l) (Backward m) = l.0 == m.0
directed_eq _ _ = false

abbrev pub basic_eq : Basic → Basic → Bool
basic_eq (Named c) (Named d) = c.0 == d.0
basic_eq (Start d) (Start e) = directed_eq d e
basic_eq _ _ = false

abbrev pub rule_eq : Rule → Rule → Bool
rule_eq (Within a b) (Within c d) = basic_eq a c && basic_eq b d
rule_eq (Apart a b) (Apart c d) = basic_eq a c && basic_eq b d
rule_eq (LinkWithin a b) (LinkWithin c d) = directed_eq a c && directed_eq b d
rule_eq (LinkApart a b) (LinkApart c d) = directed_eq a c && directed_eq b d
rule_eq (Single a) (Single c) = directed_eq a c
rule_eq _ _ = false

abbrev pub fact_eq : Fact → Fact → Bool
fact_eq (InClass c a) (InClass d b) = (c.0 == d.0) && (a.0 == b.0)
fact_eq (Linked l a b) (Linked m x y) = (l.0 == m.0) && ((a.0 == x.0) && (b.0 == y.0))
fact_eq _ _ = false

abbrev pub term_eq : Term → Term → Bool
term_eq (Variable m) (Variable n) = m == n
term_eq (Constant a) (Constant b) = a.0 == b.0
term_eq Open Open = true
term_eq _ _ = false

abbrev pub atom_eq : Atom → Atom → Bool
atom_eq (IsIn c t) (IsIn d u) = (c.0 == d.0) && term_eq t u
atom_eq (Joins l t u) (Joins m v w) = (l.0 == m.0) && (term_eq t v && term_eq u w)
atom_eq _ _ = false

-- `==` answers true exactly of what is the same

-- a test that holds of each thing and itself, and tells that two things are the same, decides whether they are
decides : {X : Type 0} (eq : X → X → Bool) → ((x : X) → eq x x ≡ true) → ((x y : X) → eq x y ≡ true → x ≡ y) → (x y : X) → Decides (eq x y) (x ≡ y)
decides eq same tells x y = (tells x y, λ e. subst (λ z. eq x z ≡ true) e (same x))

number_refl : (n : ℕ) → (n == n) ≡ true
number_refl n = (Decides-eqb n n).1 refl

pub class_same : (c d : Class) → Decides (c.0 == d.0) (c ≡ d)
class_same = decides (λ c d. c.0 == d.0) (λ c. number_refl c.0) (λ c d e. ap (λ (n : ℕ). record { 0 = n }) ((Decides-eqb c.0 d.0).0 e))

pub link_same : (l m : Link) → Decides (l.0 == m.0) (l ≡ m)
link_same = decides (λ l m. l.0 == m.0) (λ l. number_refl l.0) (λ l m e. ap (λ (n : ℕ). record { 0 = n }) ((Decides-eqb l.0 m.0).0 e))

pub name_same : (a b : Name) → Decides (a.0 == b.0) (a ≡ b)
name_same = decides (λ a b. a.0 == b.0) (λ a. number_refl a.0) (λ a b e. ap (λ (n : ℕ). record { 0 = n }) ((Decides-eqb a.0 b.0).0 e))

-- two tests and their parts
both : {s t : Bool} → s ≡ true → t ≡ true → (s && t) ≡ true
both p q = λ i. p i && q i

parts : {P Q : Type 0} {s t : Bool} → Decides s P → Decides t Q → (s && t) ≡ true → P × Q
parts {s = s} {t = t} p q e = (Decides-and s t p q).0 e

directed_refl : (d : Directed) → directed_eq d d ≡ true
directed_refl (Forward l) = number_refl l.0
directed_refl (Backward l) = number_refl l.0

directed_tells : (d e : Directed) → directed_eq d e ≡ true → d ≡ e
directed_tells (Forward l) (Forward m) h = ap Forward ((link_same l m).0 h)
directed_tells (Backward l) (Backward m) h = ap Backward ((link_same l m).0 h)
directed_tells _ _ h = absurd (true≢false (sym h))

pub directed_eq_same : (d e : Directed) → Decides (directed_eq d e) (d ≡ e)
directed_eq_same = decides directed_eq directed_refl directed_tells

basic_refl : (b : Basic) → basic_eq b b ≡ true
basic_refl (Named c) = number_refl c.0
basic_refl (Start d) = directed_refl d

basic_tells : (b c : Basic) → basic_eq b c ≡ true → b ≡ c
basic_tells (Named c) (Named d) h = ap Named ((class_same c d).0 h)
basic_tells (Start d) (Start e) h = ap Start (directed_tells d e h)
basic_tells _ _ h = absurd (true≢false (sym h))

pub basic_eq_same : (b c : Basic) → Decides (basic_eq b c) (b ≡ c)
basic_eq_same = decides basic_eq basic_refl basic_tells

rule_refl : (r : Rule) → rule_eq r r ≡ true
rule_refl (Within a b) = both (basic_refl a) (basic_refl b)
rule_refl (Apart a b) = both (basic_refl a) (basic_refl b)
rule_refl (LinkWithin a b) = both (directed_refl a) (directed_refl b)
rule_refl (LinkApart a b) = both (directed_refl a) (directed_refl b)
rule_refl (Single a) = directed_refl a

rule_tells : (r s : Rule) → rule_eq r s ≡ true → r ≡ s
rule_tells (Within a b) (Within c d) h = let p = parts (basic_eq_same a c) (basic_eq_same b d) h in λ i. Within (p.0 i) (p.1 i)
rule_tells (Apart a b) (Apart c d) h = let p = parts (basic_eq_same a c) (basic_eq_same b d) h in λ i. Apart (p.0 i) (p.1 i)
rule_tells (LinkWithin a b) (LinkWithin c d) h = let p = parts (directed_eq_same a c) (directed_eq_same b d) h in λ i. LinkWithin (p.0 i) (p.1 i)
rule_tells (LinkApart a b) (LinkApart c d) h = let p = parts (directed_eq_same a c) (directed_eq_same b d) h in λ i. LinkApart (p.0 i) (p.1 i)
rule_tells (Single a) (Single c) h = ap Single (directed_tells a c h)
rule_tells _ _ h = absurd (true≢false (sym h))

pub rule_eq_same : (r s : Rule) → Decides (rule_eq r s) (r ≡ s)
rule_eq_same = decides rule_eq rule_refl rule_tells

fact_refl : (f : Fact) → fact_eq f f ≡ true
fact_refl (InClass c a) = both (number_refl c.0) (number_refl a.0)
fact_refl (Linked l a b) = both (number_refl l.0) (both (number_refl a.0) (number_refl b.0))

fact_tells : (f g : Fact) → fact_eq f g ≡ true → f ≡ g
fact_tells (InClass c a) (InClass d b) h = let p = parts (class_same c d) (name_same a b) h in λ i. InClass (p.0 i) (p.1 i)
fact_tells (Linked l a b) (Linked m x y) h =
    let p = parts (link_same l m) (Decides-and (a.0 == x.0) (b.0 == y.0) (name_same a x) (name_same b y)) h in
    λ i. Linked (p.0 i) (p.1.0 i) (p.1.1 i)
fact_tells _ _ h = absurd (true≢false (sym h))

pub fact_eq_same : (f g : Fact) → Decides (fact_eq f g) (f ≡ g)
fact_eq_same = decides fact_eq fact_refl fact_tells

term_refl : (t : Term) → term_eq t t ≡ true
term_refl (Variable n) = number_refl n
term_refl (Constant a) = number_refl a.0
term_refl Open = refl

term_tells : (t u : Term) → term_eq t u ≡ true → t ≡ u
term_tells (Variable m) (Variable n) h = ap Variable ((Decides-eqb m n).0 h)
term_tells (Constant a) (Constant b) h = ap Constant ((name_same a b).0 h)
term_tells Open Open h = refl
term_tells _ _ h = absurd (true≢false (sym h))

pub term_eq_same : (t u : Term) → Decides (term_eq t u) (t ≡ u)
term_eq_same = decides term_eq term_refl term_tells

atom_refl : (a : Atom) → atom_eq a a ≡ true
atom_refl (IsIn c t) = both (number_refl c.0) (term_refl t)
atom_refl (Joins l t u) = both (number_refl l.0) (both (term_refl t) (term_refl u))

atom_tells : (a b : Atom) → atom_eq a b ≡ true → a ≡ b
atom_tells (IsIn c t) (IsIn d u) h = let p = parts (class_same c d) (term_eq_same t u) h in λ i. IsIn (p.0 i) (p.1 i)
atom_tells (Joins l t u) (Joins m v w) h =
    let p = parts (link_same l m) (Decides-and (term_eq t v) (term_eq u w) (term_eq_same t v) (term_eq_same u w)) h in
    λ i. Joins (p.0 i) (p.1.0 i) (p.1.1 i)
atom_tells _ _ h = absurd (true≢false (sym h))

pub atom_eq_same : (a b : Atom) → Decides (atom_eq a b) (a ≡ b)
atom_eq_same = decides atom_eq atom_refl atom_tells
