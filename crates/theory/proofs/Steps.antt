-- Steps of the within rules hold wherever the rules are kept, and a fact holds of its names.
use Rattle.std.proofs.Common.{◌≡◌, List, subst}
use mathlib.Core.List.{Memᴰ}
use Rattle.vocabulary.specs.declared.numbers.Name.{Name}
use Rattle.vocabulary.specs.declared.basic.Directed.{Directed}
use Rattle.vocabulary.specs.declared.basic.Directed.TheVariants.{Forward, Backward}
use Rattle.vocabulary.specs.declared.basic.Basic.{Basic}
use Rattle.vocabulary.specs.declared.basic.Basic.TheVariants.{Named, Start}
use Rattle.vocabulary.specs.declared.rules.Rule.{Rule}
use Rattle.vocabulary.specs.declared.rules.Rule.TheVariants.{Within, LinkWithin}
use Rattle.vocabulary.specs.declared.facts.Fact.{Fact}
use Rattle.std.specs.List.{AllByRecursion}
use Rattle.theory.specs.Worlds.{Shape, Pair, In, Keeps, Has}
use Rattle.vocabulary.specs.Codes.{turn}
use Rattle.theory.specs.Reaching.{LinkStep, along, back, Step, by_rule, by_link, Reaches, here, then}
use Rattle.theory.specs.Clashes.{linked, At}
use Rattle.theory.proofs.Lists.{each}

-- a pair of a link is a pair of the turned link, the other way round
pub turned : (s : Shape) (d : Directed) (x y : s.Carrier) → Pair s d x y → Pair s (turn d) y x
turned s (Forward l) x y p = p
turned s (Backward l) x y p = p

pub unturned : (s : Shape) (d : Directed) (x y : s.Carrier) → Pair s (turn d) x y → Pair s d y x
unturned s (Forward l) x y p = p
unturned s (Backward l) x y p = p

-- a shape that keeps the within rules
pub record Climbs (rules : List Rule) (s : Shape) : Type 0 where
  pub within : (b c : Basic) → Memᴰ (Within b c) rules → (x : s.Carrier) → In s b x → In s c x
  pub link_within : (d e : Directed) → Memᴰ (LinkWithin d e) rules → (x y : s.Carrier) → Pair s d x y → Pair s e x y

pub keeps_climbs : (rules : List Rule) (s : Shape) → AllByRecursion (Keeps s) rules → Climbs rules s
keeps_climbs rules s keeps = record { within = λ b c m. each (Keeps s) keeps m; link_within = λ d e m. each (Keeps s) keeps m }

module _ (rules : List Rule) (s : Shape) (climbs : Climbs rules s) where
  pub link_step : {d e : Directed} → LinkStep rules d e → (x y : s.Carrier) → Pair s d x y → Pair s e x y
  link_step (along {d = d} {e = e} m) x y p = climbs.link_within d e m x y p
  link_step (back {d = d} {e = e} m) x y p = unturned s e y x (climbs.link_within (turn d) (turn e) m y x (turned s d x y p))

  pub step : {b c : Basic} → Step rules b c → (x : s.Carrier) → In s b x → In s c x
  step (by_rule {b = b} {c = c} m) x p = climbs.within b c m x p
  step (by_link t) x p = (p.0, link_step t x p.0 p.1)

  pub reaches : {b c : Basic} → Reaches (Step rules) b c → (x : s.Carrier) → In s b x → In s c x
  reaches here x p = p
  reaches (then t r) x p = reaches r x (step t x p)

  pub link_reaches : {d e : Directed} → Reaches (LinkStep rules) d e → (x y : s.Carrier) → Pair s d x y → Pair s e x y
  link_reaches here x y p = p
  link_reaches (then t r) x y p = link_reaches r x y (link_step t x y p)

-- what a fact says of a name
pub has_link : (s : Shape) (f : Fact) (d : Directed) (a b : Name) → f ≡ linked d a b → Has s f → Pair s d (s.thing a) (s.thing b)
has_link s f (Forward l) a b p h = subst (Has s) p h
has_link s f (Backward l) a b p h = subst (Has s) p h

pub has_at : (s : Shape) (f : Fact) (b : Basic) (a : Name) → At f b a → Has s f → In s b (s.thing a)
has_at s f (Named c) a p h = subst (Has s) p h
has_at s f (Start d) a p h = (s.thing p.0, has_link s f d a p.0 p.1 h)
