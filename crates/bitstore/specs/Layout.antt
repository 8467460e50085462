-- Where the bit of each fact lies, for names below n: first a bit for each class and name, then one for each link and two names.
use Rattle.std.specs.Prelude.{◌≡◌, ℕ, ◌+◌, ◌-◌, ◌*◌, ◌/◌, ◌%◌, ◌<◌, true, cond, List, map, Some, None, Option, nat_lt}
use Rattle.bitstore.specs.Marks.{bit_at, listed}
use Rattle.facts.specs.Changes.{NamesBelow}
use Rattle.facts.specs.Listings.{earlier}
use Rattle.std.specs.List.{slice_get}
use Rattle.vocabulary.specs.declared.facts.Fact.{Fact}
use Rattle.vocabulary.specs.declared.facts.Fact.TheVariants.{InClass, Linked}

-- the bit of a fact
abbrev pub position_of : ℕ → Fact → ℕ
position_of n (InClass c a) = c.0 * n + a.0
position_of n (Linked l a b) = 64 * n + ((l.0 * n + a.0) * n + b.0)

-- how many bits, and how many bytes, there are
abbrev pub bits : ℕ → ℕ
bits n = 64 * n + 32 * (n * n)

abbrev pub bytes : ℕ → ℕ
bytes n = 8 * n + 4 * (n * n)

-- k is the bit of f, and within the largest table
pub record Placed (n : ℕ) (f : Fact) (k : ℕ) : Type 0 where
  pub at : k ≡ position_of n f
  pub inside : k < bits n
  pub small : k < 524288

-- what is answered for the bit of f: there is one if the names of f are below n
abbrev pub Located : ℕ → Fact → Option ℕ → Type 0
Located n f (Some k) = NamesBelow n f × Placed n f k
Located n f None = NamesBelow n f → ⊥

-- the fact of the bit y of the links
abbrev pub link_of : ℕ → ℕ → Fact
link_of n y = Linked (record { 0 = y / n / n }) (record { 0 = y / n % n }) (record { 0 = y % n })

-- the fact of a bit
unfoldable pub fact_of : ℕ → ℕ → Fact
fact_of n x = cond (nat_lt x (64 * n)) (InClass (record { 0 = x / n }) (record { 0 = x % n })) (link_of n (x - 64 * n))

-- the facts whose bits are set, in the order of their bits
unfoldable pub listing : ℕ → List ℕ → List Fact
listing n t = map (fact_of n) (listed (bit_at t) (bits n))

-- every fact is earlier than those behind it
abbrev pub Ascending : List Fact → Type 0
Ascending xs = (i j : ℕ) (f g : Fact) → i < j → slice_get xs i ≡ Some f → slice_get xs j ≡ Some g → earlier f g ≡ true

-- whatever the table of a bit store holds, its listing ascends: class facts first, then link facts, each by its numbers
abbrev pub ListingAscends : Type 0
ListingAscends = (n : ℕ) (t : List ℕ) → 0 < n → Ascending (listing n t)
