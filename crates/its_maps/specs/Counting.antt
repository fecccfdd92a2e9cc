-- How many devices and events are mapped, and how many events name each collection.
use Rattle.std.specs.Prelude.{ℕ, Bool, true, ◌≡◌, ◌-◌, ◌^◌, ◌<◌, ◌&&◌, ◌==◌, if◌then◌else◌, length, Option, Some, None, nat_lt, slice_index_or}
use Rattle.std.specs.List.{sum_by, list_any}
use Rattle.std.specs.Vec.{vec_len, vec_capacity}
use Rattle.std.specs.Ordering.{nat_cmp}
use Rattle.std.specs.FinMap as finmap
use Rattle.std.specs.FinMap.{FinMap}
use Rattle.its_types.specs.Maps.{Maps}
use Rattle.its_types.specs.declared.translation.Event.{Event}
use Rattle.its_maps.specs.declared.device_record.DeviceRecord.{DeviceRecord}
use Rattle.its_maps.specs.declared.counts.Counts.{Counts}
use Rattle.its_maps.specs.declared.tally.Tally.{Tally}
use Rattle.its_maps.specs.declared.tally.Tally.TheVariants.{Few, Many}

-- some event names the collection
abbrev pub has_events : Maps → ℕ → Bool
has_events m icid = list_any (λ e. e.1.icid.0 == icid) (finmap.entries m.events)

-- ---- sums over a map

abbrev pub total : {X : Type 0} → (X → ℕ) → FinMap nat_cmp X → ℕ
total f m = sum_by (λ e. f e.1) (finmap.entries m)

-- of the value that a key has, or none
abbrev pub of_option : {X : Type 0} → (X → ℕ) → Option X → ℕ
of_option f None = 0
of_option f (Some x) = f x

abbrev pub one : {X : Type 0} → X → ℕ
one x = 1

abbrev pub is_named : ℕ → ℕ → ℕ
is_named n icid = if n == icid then 1 else 0

-- whether an event names the collection, as a number
abbrev pub naming : ℕ → Event → ℕ
naming icid event = is_named event.icid.0 icid

-- over the events of a device
abbrev pub over_events : (Event → ℕ) → DeviceRecord → ℕ
over_events f d = total f d.events.map

-- over the events of all devices
abbrev pub over_all : (Event → ℕ) → FinMap nat_cmp DeviceRecord → ℕ
over_all f = total (over_events f)

-- ---- what is kept of them

-- a collection is named so often
abbrev pub named : Tally → ℕ → ℕ
named (Few icids) icid = sum_by (λ i. is_named i.0 icid) icids.items
named (Many counts) icid = slice_index_or counts.items icid 0

-- a count for each ICID
abbrev pub IsTally : Tally → Type 0
IsTally (Few icids) = Unit {0}
IsTally (Many counts) = length counts.items ≡ 65536

abbrev pub takes_another : Tally → Bool
takes_another (Few icids) = nat_lt (vec_len icids) (vec_capacity icids)
takes_another (Many counts) = true

-- one device more can be counted
abbrev pub counts_device : Counts → Bool
counts_device c = nat_lt c.devices (2 ^ 32 - 1)

-- one event more can be counted without memory
abbrev pub counts_another : Counts → Bool
counts_another c = nat_lt c.events (2 ^ 64 - 2) && takes_another c.tally

-- the counts are those of the devices
pub record AreCounted (c : Counts) (m : FinMap nat_cmp DeviceRecord) : Type 0 where
  pub devices : c.devices ≡ total one m
  pub events : c.events ≡ over_all one m
  pub below : c.events < 2 ^ 64 - 1
  pub table : IsTally c.tally
  pub named : (icid : ℕ) → icid < 65536 → named c.tally icid ≡ over_all (naming icid) m
