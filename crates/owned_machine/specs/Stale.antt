-- What is kept of pending bits where KVM saved them: those that events lead to. The sets of all virtual processors, as a walk over the
-- events of each translator makes them.
use Rattle.std.specs.Prelude.{◌≡◌, ◌<◌, ℕ, Bool, true, false, ◌&&◌, ◌||◌, ◌==◌, List, length, filter, slice_get, slice_index_or, Option, Some, None}
use Rattle.std.specs.List.{list_any}
use Rattle.its_types.specs.Maps.{Maps, event_of, collection_of}
use Rattle.its_types.specs.Ranges.{is_lpi}
use Rattle.its_types.specs.declared.ids.Vcpu.{Vcpu}
use Rattle.its_types.specs.declared.machine.Shape.{Shape}
use Rattle.its_types.specs.declared.translation.Event.{Event}
use Rattle.its_maps.specs.MapsRoom.{EventsHaveDevices}
use Rattle.its_plain.specs.Described.{is_led_to, is_target, leads_to}
use Rattle.lpi_pending.specs.InHand.{RedistParts, pend_in}
use Rattle.lpi_pending.specs.PendingSets.{PendingSet}
use Rattle.lpi_pending.specs.Pend.{Pend}
use Rattle.cmd_exec.specs.InHand.{lpis_in}
use Rattle.owned_parts.specs.Owned.{state_of_parts}
use Rattle.owned_parts.specs.declared.parts.Parts.{Parts}

-- which LPIs of which virtual processors
abbrev pub Test : Type 0
Test = ℕ → ℕ → Bool

abbrev pub or_by : Test → Test → Test
or_by a b vcpu intid = a vcpu intid || b vcpu intid

-- ---- where events lead

-- one event
abbrev pub leads : Maps → Event → Test
leads m e vcpu intid = e.intid.0 == intid && is_target vcpu (collection_of m e.icid.0)

-- some event of a device's
abbrev pub some_leads : Maps → List (ℕ × Event) → Test
some_leads m es vcpu intid = list_any (λ e. leads m e.1 vcpu intid) es

-- some event of a list of all
abbrev pub any_leads : Maps → List ((ℕ × ℕ) × Event) → Test
any_leads m es vcpu intid = list_any (leads_to m intid vcpu) es

-- some event of some translator
abbrev pub led_in : Parts → Test
led_in p vcpu intid = is_led_to (state_of_parts p).translators vcpu intid

-- one LPI of one virtual processor
abbrev pub only : Vcpu → ℕ → Test
only v x vcpu intid = x == intid && v.0 == vcpu

-- each event is of an LPI and of a mapped device, and each collection goes to a virtual processor that there is
pub record LeadInside (s : Shape) (m : Maps) : Type 0 where
  pub lpis : (dev ev : ℕ) (e : Event) → event_of m dev ev ≡ Some e → is_lpi s.lpi_bits e.intid.0 ≡ true
  pub targets : (icid : ℕ) (v : Vcpu) → collection_of m icid ≡ Some v → v.0 < s.vcpus
  pub have_devices : EventsHaveDevices m

-- ---- sets

-- the pending LPIs of a virtual processor that pass
abbrev pub set_by : Parts → Test → ℕ → PendingSet
set_by p test vcpu = record { lpi_bits = p.layout.shape.lpi_bits; lpis = filter (test vcpu) (lpis_in p.redists vcpu) }

-- those of each virtual processor
pub record AreSetsBy (p : Parts) (test : Test) (sets : List PendingSet) : Type 0 where
  pub as_many : length sets ≡ p.layout.shape.vcpus
  pub each : (vcpu : ℕ) → vcpu < p.layout.shape.vcpus → slice_get sets vcpu ≡ Some (set_by p test vcpu)

abbrev pub AreSets : Parts → List PendingSet → Type 0
AreSets p sets = (test : Test) × AreSetsBy p test sets

-- pending LPIs that pass one test more are in them
abbrev pub AddsBy : Parts → Test → List PendingSet → List PendingSet → Type 0
AddsBy p more old new = (test : Test) → AreSetsBy p test old → AreSetsBy p (or_by test more) new

-- the first n sets are in the place of those that were pending
pub record ArePut (old : RedistParts) (sets : List PendingSet) (n : ℕ) (new : RedistParts) : Type 0 where
  pub confs : new.confs ≡ old.confs
  pub long : length new.pends ≡ length old.pends
  pub put : (vcpu : ℕ) (p : Pend) → vcpu < n → pend_in old vcpu ≡ Some p
      → pend_in new vcpu ≡ Some (record p { pending = slice_index_or sets vcpu p.pending })
  pub rest : (vcpu : ℕ) → (vcpu < n → ⊥) → pend_in new vcpu ≡ pend_in old vcpu

-- a set of as many LPIs, and where LPIs are off the same
abbrev pub FitsPlace : PendingSet → Option Pend → Type 0
FitsPlace set None = Unit {0}
FitsPlace set (Some p) = (set.lpi_bits ≡ p.pending.lpi_bits) × (p.accepts ≡ false → set ≡ p.pending)

-- with another set, where something is in hand
abbrev pub with_pending : PendingSet → Option Pend → Option Pend
with_pending set None = None
with_pending set (Some p) = Some (record p { pending = set })
