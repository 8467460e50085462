-- The certain answers of a question are what its rewritings find in the facts.
use Rattle.std.proofs.Common.{◌≡◌, ℕ, ◌↔◌, List, [], ◌∷◌, map, sym, refl, ap, ◌∙◌, subst, subst₂}
use Rattle.std.proofs.ByRecursion.{All-weaker}
use Rattle.std.specs.List.{AllByRecursion}
use Rattle.theory.proofs.Canonical.{canonical, named, in_has, pair_joined, site, site_world}
use Rattle.theory.proofs.Complete.{complete}
use Rattle.theory.proofs.Derivations.{Ground, in_class, pair, witness, ground, Stored, Derived, given, within, links, starts, ends, again, again_back, ground_shape}
use Rattle.theory.proofs.Derivations as Derivations
use Rattle.theory.proofs.Lists.{each}
use Rattle.theory.proofs.Numbering.{Thing, name, child, thing}
use Rattle.theory.proofs.Soundness.{sound}
use Rattle.theory.proofs.Steps.{turned, Climbs, reaches, link_reaches, has_link, has_at}
use Rattle.theory.proofs.Things.{Belongs, Alive, Joined, told, down, up}
use Rattle.theory.specs.Clashes.{Lawful}
use Rattle.theory.specs.Lists.{Matched}
use Rattle.theory.specs.Questions.{Query, Serves, Holds, True, stored}
use Rattle.theory.specs.Rewritings.{Rewriting}
use Rattle.theory.specs.Worlds.{Shape, Pair, In, Has, shape, SiteWorld}
use Rattle.vocabulary.specs.Codes.{turn}
use Rattle.vocabulary.specs.Ranges.{FactFits}
use Rattle.vocabulary.specs.declared.basic.Basic.{Basic}
use Rattle.vocabulary.specs.declared.basic.Basic.TheVariants.{Named, Start}
use Rattle.vocabulary.specs.declared.basic.Directed.{Directed}
use Rattle.vocabulary.specs.declared.basic.Directed.TheVariants.{Forward, Backward}
use Rattle.vocabulary.specs.declared.facts.Fact.{Fact}
use Rattle.vocabulary.specs.declared.facts.Fact.TheVariants.{InClass, Linked}
use Rattle.vocabulary.specs.declared.numbers.Class.{Class}
use Rattle.vocabulary.specs.declared.numbers.Link.{Link}
use Rattle.vocabulary.specs.declared.numbers.Name.{Name}
use Rattle.vocabulary.specs.declared.questions.Atom.{Atom}
use Rattle.vocabulary.specs.declared.questions.Atom.TheVariants.{IsIn, Joins}
use Rattle.vocabulary.specs.declared.questions.Term.{Term}
use Rattle.vocabulary.specs.declared.questions.Term.TheVariants.{Variable, Constant, Open}
use Rattle.vocabulary.specs.declared.rules.Family.TheVariants.{R}
use Rattle.vocabulary.specs.declared.rules.Rule.{Rule}
use Rattle.vocabulary.specs.declared.rules.Rule.TheVariants.{Within, LinkWithin}
use mathlib.Core.List.{Memᴰ}

-- a homomorphism: a map of things that keeps names, classes and links
record Homomorphism (s r : Shape) : Type 0 where
  pub to : s.Carrier → r.Carrier
  pub names : (a : Name) → to (s.thing a) ≡ r.thing a
  pub classes : (c : Class) (x : s.Carrier) → s.class c x → r.class c (to x)
  pub pairs : (l : Link) (x y : s.Carrier) → s.link l x y → r.link l (to x) (to y)

-- it keeps what is true
module _ (s r : Shape) (h : Homomorphism s r) (v : ℕ → s.Carrier) where
  serves_mapped : (t : Term) (x : s.Carrier) → Serves s.thing v t x → Serves r.thing (λ n. h.to (v n)) t (h.to x)
  serves_mapped (Variable n) x e = ap h.to e
  serves_mapped (Constant a) x e = sym (h.names a) ∙ ap h.to e
  serves_mapped Open x e = tt

  holds_mapped : (a : Atom) → Holds s v a → Holds r (λ n. h.to (v n)) a
  holds_mapped (IsIn c t) k = (h.to k.0, serves_mapped t k.0 k.1, h.classes c k.0 k.2)
  holds_mapped (Joins l t u) k = (h.to k.0, h.to k.1, serves_mapped t k.0 k.2, serves_mapped u k.1 k.3, h.pairs l k.0 k.1 k.4)

  head_mapped : (ts : List Term) (row : List Name) → Matched (Serves s.thing v) ts (map s.thing row) → Matched (Serves r.thing (λ n. h.to (v n))) ts (map r.thing row)
  head_mapped [] [] k = k
  head_mapped [] (a ∷ row) k = k
  head_mapped (t ∷ ts) [] k = k
  head_mapped (t ∷ ts) (a ∷ row) k = (subst (Serves r.thing (λ n. h.to (v n)) t) (h.names a) (serves_mapped t (s.thing a) k.0), head_mapped ts row k.1)

true_mapped : (s r : Shape) → Homomorphism s r → (q : Query) (row : List Name) → True s q row → True r q row
true_mapped s r h q row (v, k, l) =
    ((λ n. h.to (v n)), head_mapped s r h v q.head row k, All-weaker (Holds s v) (Holds r (λ n. h.to (v n))) (holds_mapped s r h v) q.atoms l)

-- from the facts alone there is one to every shape that has them, and from their ground atoms one to the facts alone
facts_to : (s : Shape) (facts : List Fact) → ((f : Fact) → Memᴰ f facts → Has s f) → Homomorphism (stored facts) s
facts_to s facts has = record { to = s.thing; names = λ a. refl; classes = λ c a m. has (InClass c a) m; pairs = λ l a b m. has (Linked l a b) m }

abbrev to_name : Thing → Name
to_name (name a) = a
to_name (child t d) = to_name t

abbrev to_fact : Ground → Fact
to_fact (in_class c x) = InClass c (to_name x)
to_fact (Derivations.linked l x y) = Linked l (to_name x) (to_name y)

fact_back : (f : Fact) → to_fact (ground f) ≡ f
fact_back (InClass c a) = refl
fact_back (Linked l a b) = refl

stored_fact : (facts : List Fact) (g : Ground) → Stored facts g → Memᴰ (to_fact g) facts
stored_fact facts g (f, m, p) = subst (λ (e : Fact). Memᴰ e facts) (sym (fact_back f) ∙ ap to_fact p) m

stored_to_facts : (facts : List Fact) → Homomorphism (ground_shape (Stored facts)) (stored facts)
stored_to_facts facts = record { to = to_name; names = λ a. refl; classes = λ c x s. stored_fact facts (in_class c x) s; pairs = λ l x y s. stored_fact facts (Derivations.linked l x y) s }

-- from the canonical world there is one to the derived atoms
module _ (rules : List Rule) (facts : List Fact) where
  abbrev derived : Shape
  derived = ground_shape (Derived rules facts)

  to_pair : (d : Directed) (x y : Thing) → Pair derived d x y → Derived rules facts (pair d x y)
  to_pair (Forward l) x y p = p
  to_pair (Backward l) x y p = p

  to_witness : (b : Basic) (x : Thing) → In derived b x → (y : Thing) × Derived rules facts (witness b x y)
  to_witness (Named c) x h = (x, h)
  to_witness (Start d) x (y, p) = (y, to_pair d x y p)

  by_class_rule : (b c : Basic) → Memᴰ (Within b c) rules → (x : Thing) → In derived b x → In derived c x
  by_class_rule b (Named c) m x h = let k = to_witness b x h in within m k.0 k.1
  by_class_rule b (Start (Forward l)) m x h = let k = to_witness b x h in (child x (Forward l), starts m k.0 k.1)
  by_class_rule b (Start (Backward l)) m x h = let k = to_witness b x h in (child x (Backward l), ends m k.0 k.1)

  by_link_rule : (d e : Directed) → Memᴰ (LinkWithin d e) rules → (x y : Thing) → Pair derived d x y → Pair derived e x y
  by_link_rule d (Forward l) m x y p = links m (to_pair d x y p)
  by_link_rule d (Backward l) m x y p = Derivations.turned m (to_pair d x y p)

  climbs : Climbs rules derived
  climbs = record { within = by_class_rule; link_within = by_link_rule }

  made : (d : Directed) (x y : Thing) → Pair derived d x y → Pair derived d x (child x d)
  made (Forward l) x y p = again y p
  made (Backward l) x y p = again_back y p

  has : (f : Fact) → Memᴰ f facts → Has derived f
  has (InClass c a) m = given (InClass c a, m, refl)
  has (Linked l a b) m = given (Linked l a b, m, refl)

  belongs_derived : (t : Thing) (b : Basic) → Alive rules facts t → Belongs rules facts t b → In derived b t
  belongs_derived (name a) b l (f, m, (c, p, r)) = reaches rules derived climbs r (name a) (has_at derived f c a p (has f m))
  belongs_derived (child t d) b l r =
      let p = belongs_derived t (Start d) l.0 l.1 in
      reaches rules derived climbs r (child t d) (t, turned derived d t (child t d) (made d t p.0 p.1))

  child_derived : (x : Thing) (e : Directed) → Alive rules facts (child x e) → Pair derived e x (child x e)
  child_derived x e l = let p = belongs_derived x (Start e) l.0 l.1 in made e x p.0 p.1

  joined_derived : (d : Directed) (x y : Thing) → Joined rules facts d x y → Pair derived d x y
  joined_derived d x y (told a b p q (f, m, (e, u, r))) =
      link_reaches rules derived climbs r x y (subst₂ (Pair derived e) (sym p) (sym q) (has_link derived f e a b u (has f m)))
  joined_derived d x y (down e p l r) =
      link_reaches rules derived climbs r x y (subst (Pair derived e x) (sym p) (child_derived x e (subst (Alive rules facts) p l)))
  joined_derived d x y (up e p l r) =
      link_reaches rules derived climbs r x y (subst (λ (z : Thing). Pair derived (turn e) z y) (sym p) (turned derived e y (child y e) (child_derived y e (subst (Alive rules facts) p l))))

  canonical_to_derived : Homomorphism (shape (canonical rules facts)) derived
  canonical_to_derived = record {
    to = thing;
    names = named rules facts;
    classes = λ c x p. let h = in_has rules facts (Named c) x p in belongs_derived (thing x) (Named c) h.0 h.1;
    pairs = λ l x y p. joined_derived (Forward l) (thing x) (thing y) (pair_joined rules facts (Forward l) x y p);
  }

-- the rows that are true in every world of the site are those that a rewriting finds in the facts
pub certain : (rules : List Rule) → Lawful rules → (facts : List Fact) → AllByRecursion FactFits facts → SiteWorld rules facts → (q : Query) (row : List Name) →
    ((w : SiteWorld rules facts) → True (shape w.world) q row) ↔ ((r : Query) × Rewriting rules q r × True (stored facts) r row)
certain rules lawful facts fit world q row = (there, from)
  where
    there : ((w : SiteWorld rules facts) → True (shape w.world) q row) → (r : Query) × Rewriting rules q r × True (stored facts) r row
    there h =
        let calm = (site R rules facts lawful fit).0 world in
        let t = complete rules facts q row (true_mapped (shape (canonical rules facts)) (ground_shape (Derived rules facts)) (canonical_to_derived rules facts) q row (h (site_world R rules facts calm lawful))) in
        (t.0, t.1, true_mapped (ground_shape (Stored facts)) (stored facts) (stored_to_facts facts) t.0 row t.2)

    from : (r : Query) × Rewriting rules q r × True (stored facts) r row → (w : SiteWorld rules facts) → True (shape w.world) q row
    from (r, k, h) w =
        let s = shape w.world in
        sound s rules w.keeps q k row (true_mapped (stored facts) s (facts_to s facts (λ f m. each (Has s) w.has m)) r row h)
