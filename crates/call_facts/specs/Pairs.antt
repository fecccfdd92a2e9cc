-- A device and one of its events, in the maps of a translator (IHI 0069, section 5.2).
use Rattle.std.specs.Prelude.{ℕ, ◌&&◌, ◌==◌, if◌then◌else◌, Option, Some, None}
use Rattle.its_types.specs.Maps.{Maps, device_of, event_of, collection_of}
use Rattle.its_types.specs.declared.ids.Target.{Target}
use Rattle.its_types.specs.declared.ids.Vcpu.{Vcpu}
use Rattle.its_types.specs.declared.translation.Event.{Event}
use Rattle.call_facts.specs.declared.pairs.EventChange.{EventChange}
use Rattle.call_facts.specs.declared.pairs.EventChange.TheVariants.{Absent, Mapped, Unmapped, Kept, Moved}
use Rattle.call_facts.specs.declared.pairs.PairState.{PairState}

-- the virtual processor of an event's collection
abbrev pub target_of : Maps → Option Event → Option Vcpu
target_of m None = None
target_of m (Some event) = collection_of m event.icid.0

abbrev pub pair_state : Maps → ℕ → ℕ → PairState
pair_state m dev ev = record { device = device_of m dev; event = event_of m dev ev; target = target_of m (event_of m dev ev) }

-- the LPI of an event, and where it goes
abbrev pub spot_of : Option Event → Option Vcpu → Option Target
spot_of None v = None
spot_of (Some event) None = None
spot_of (Some event) (Some vcpu) = Some (record { vcpu = vcpu; intid = event.intid })

abbrev pub spot : PairState → Option Target
spot p = spot_of p.event p.target

-- two events lead to the same LPI by the same collection
abbrev pub kept_or_moved : Event → Event → EventChange
kept_or_moved old new = if old.intid.0 == new.intid.0 && old.icid.0 == new.icid.0 then Kept else Moved

abbrev pub event_change : Option Event → Option Event → EventChange
event_change None None = Absent
event_change None (Some new) = Mapped
event_change (Some old) None = Unmapped
event_change (Some old) (Some new) = kept_or_moved old new
