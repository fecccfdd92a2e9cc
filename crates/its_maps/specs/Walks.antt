-- What is left of a walk: where it goes on, and the entries that it gives.
use Rattle.std.specs.Prelude.{ℕ, List, ◌++◌, Option}
use Rattle.its_types.specs.declared.translation.Event.{Event}
use Rattle.its_maps.specs.Pages.{slots_from, paged}

-- the places left of a page, the first of which is a key's, and the pages after it
pub record PagesLeft (V : Type 0) : Type 0 where
  pub key : ℕ
  pub places : List (Option V)
  pub pages : List (ℕ × List (Option V))

abbrev pub left_of_pages : {V : Type 0} → PagesLeft V → List (ℕ × V)
left_of_pages w = slots_from w.key w.places ++ paged w.pages

-- a device's events lie in one array while they are few, and else in pages
pub record EventsLeft : Type 0 where
  pub few : List (ℕ × Event)
  pub many : PagesLeft Event

abbrev pub events_left : EventsLeft → List (ℕ × Event)
events_left w = w.few ++ left_of_pages w.many
