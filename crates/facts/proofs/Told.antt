-- What a list store answers, by what became of its list.
use Rattle.distinct.proofs.Sameness.{Same, absent_not, present_member, without_parted}
use Rattle.distinct.specs.Items.{items, spare}
use Rattle.distinct.specs.Puts.{Outcome}
use Rattle.distinct.specs.Removals.{Removal}
use Rattle.distinct.specs.Repeats.{Different}
use Rattle.distinct.specs.declared.Distinct.{Distinct}
use Rattle.facts.proofs.Listing.{appended_added, parted_added, parted_without}
use Rattle.facts.proofs.Places.{has_room, kept, room_again}
use Rattle.facts.specs.Changes.{Entered, Withdrawn}
use Rattle.facts.specs.Listings.{appended, changed, without}
use Rattle.std.proofs.Common.{◌≡◌, ◌<◌, Bool, true, false, List, length, drop, Ok, sym, ap}
use Rattle.vocabulary.specs.Effects.{effect_of}
use Rattle.vocabulary.specs.Ranges.{FactFits}
use Rattle.vocabulary.specs.declared.facts.Fact.{Fact}

module _ (s t : Distinct Fact) (f : Fact) where
  -- the list takes a fact while it has fewer than there are places
  abbrev Room : Distinct Fact → List Fact → Fact → Type 0
  Room d xs g = length xs < length d.places.now

  pub entered_put : (new : Bool) → FactFits f → length t.places.now ≡ length s.places.now → Outcome Same s f t (Ok new) →
      Entered (Room s) (Room t) (items s) f (items t) (Ok (effect_of new)) × (items t ≡ changed (appended f) (Ok (effect_of new)) (items s)) × (spare t ≡ changed (drop 1) (Ok (effect_of new)) (spare s))
  entered_put true fits room o = ((fits, has_room s.len s.places.now o.1, appended_added (items s) f (absent_not (items s) f o.0) o.2), o.2, o.3)
  entered_put false fits room o = ((present_member (items s) f o.0, kept (length s.places.now) _ (items s) _ room o.1), o.1, o.2)

  pub withdrawn_removed : (gone : Bool) → FactFits f → Different (items s) → length t.places.now ≡ length s.places.now → Removal Same s f t gone →
      Withdrawn (Room s) (Room t) (items s) f (items t) (Ok (effect_of gone)) × (items t ≡ changed (without f) (Ok (effect_of gone)) (items s)) × (changed (drop 1) (Ok (effect_of gone)) (spare t) ≡ spare s)
  withdrawn_removed true fits all room o =
      let p = without_parted o.0 in
      ((parted_added p all, room_again s.len s.places.now _ room (parted_added p all).count), sym (parted_without p all), o.1)
  withdrawn_removed false fits all room o = ((fits, absent_not (items s) f o.0, kept (length s.places.now) _ (items s) _ room (ap items o.1)), ap items o.1, ap spare o.1)
