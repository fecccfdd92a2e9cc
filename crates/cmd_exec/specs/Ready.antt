-- When an effect of a command (IHI 0069, section 5.3) can be had on the parts in hand.
use Rattle.std.specs.Prelude.{◌≡◌, ◌≤◌, ◌<◌, ℕ, true, false, ◌==◌, List, [], ◌∷◌, Option, Some, None, IsSome, IfSome, is_some}
use Rattle.its_types.specs.Maps.{device_of, event_of, collection_of}
use Rattle.its_types.specs.declared.ids.Vcpu.{Vcpu}
use Rattle.its_types.specs.declared.machine.Profile.{Profile}
use Rattle.its_types.specs.declared.machine.Profile.TheVariants.{One, Two}
use Rattle.its_types.specs.declared.machine.Shape.{Shape}
use Rattle.its_maps.specs.MapsRoom.{MapsRoom, event_room, EventsHaveDevices}
use Rattle.its_plain.specs.Commands.{intids_of}
use Rattle.lpi_config.specs.Conf.{Conf}
use Rattle.lpi_pending.specs.InHand.{RedistParts, conf_in, pend_in}
use Rattle.lpi_pending.specs.Pend.{Pend}
use Rattle.cmd_exec.specs.declared.effect.Effect.{Effect}
use Rattle.cmd_exec.specs.declared.effect.Effect.TheVariants as effect
use Rattle.cmd_exec.specs.InHand.{is_on_in, takes_lpi, CanRereadAll}

-- the configuration of each virtual processor is in hand, and can read these LPIs again
abbrev pub HeldCanReread : Option Conf → List ℕ → Type 0
HeldCanReread None intids = ⊥
HeldCanReread (Some c) intids = CanRereadAll c intids

abbrev pub CanEachReread : ℕ → RedistParts → List ℕ → Type 0
CanEachReread vcpus redists intids = (v : ℕ) → v < vcpus → HeldCanReread (conf_in redists v) intids

-- what is pending at the target is, if there is one
abbrev pub IsTargetInHand : RedistParts → Option Vcpu → Type 0
IsTargetInHand redists None = Unit {0}
IsTargetInHand redists (Some vcpu) = is_some (pend_in redists vcpu.0) ≡ true

abbrev pub AreBothInHand : RedistParts → ℕ → ℕ → Type 0
AreBothInHand redists from to = (is_some (pend_in redists from) ≡ true) × (is_some (pend_in redists to) ≡ true)

-- that of both targets is, where a collection gets another one
abbrev pub AreTargetsInHand : RedistParts → Profile → Option Vcpu → ℕ → Type 0
AreTargetsInHand redists One before to = Unit {0}
AreTargetsInHand redists Two None to = Unit {0}
AreTargetsInHand redists Two (Some from) to = (from.0 == to) ≡ false → AreBothInHand redists from.0 to

-- it takes each of these LPIs
abbrev pub TakesAll : RedistParts → ℕ → List ℕ → Type 0
TakesAll redists vcpu [] = Unit {0}
TakesAll redists vcpu (intid ∷ intids) = (takes_lpi redists vcpu intid ≡ true) × TakesAll redists vcpu intids

abbrev pub TakesIfMapped : RedistParts → Option Vcpu → ℕ → Type 0
TakesIfMapped redists None intid = Unit {0}
TakesIfMapped redists (Some vcpu) intid = takes_lpi redists vcpu.0 intid ≡ true

-- both are in hand, and have the same LPIs
abbrev pub HaveSameLpis : Option Pend → Option Pend → Type 0
HaveSameLpis (Some a) (Some b) = a.pending.lpi_bits ≡ b.pending.lpi_bits
HaveSameLpis None b = ⊥
HaveSameLpis (Some a) None = ⊥

-- LPIs are on where one becomes pending
unfoldable pub IsReady : Shape → MapsRoom → RedistParts → Effect → Type 0
IsReady s m redists (effect.MapDevice dev device) = device_of m.maps dev.0 ≡ None → 1 ≤ m.room.devices
IsReady s m redists (effect.MapCollection icid vcpu) = collection_of m.maps icid.0 ≡ None → 1 ≤ m.room.collections
IsReady s m redists (effect.MoveCollection icid from to) =
    (collection_of m.maps icid.0 ≡ None → 1 ≤ m.room.collections) × EventsHaveDevices m.maps
    × TakesAll redists from.0 (intids_of m.maps icid.0) × TakesAll redists to.0 (intids_of m.maps icid.0) × (is_on_in redists to.0 ≡ true)
IsReady s m redists (effect.MapEvent dev ev event) =
    IsSome (device_of m.maps dev.0) × (event_of m.maps dev.0 ev.0 ≡ None → 1 ≤ event_room m.room dev.0) × CanEachReread s.vcpus redists (event.intid.0 ∷ [])
IsReady s m redists (effect.MoveEvent dev ev intid icid from to) =
    IfSome (event_of m.maps dev.0 ev.0) (λ e. e.intid ≡ intid) × IsSome (event_of m.maps dev.0 ev.0)
    × (takes_lpi redists from.0 intid.0 ≡ true) × (takes_lpi redists to.0 intid.0 ≡ true) × (is_on_in redists to.0 ≡ true)
IsReady s m redists (effect.UnmapEvent dev ev intid target) = TakesIfMapped redists target intid.0
IsReady s m redists (effect.SetLpi intid vcpu) = (takes_lpi redists vcpu.0 intid.0 ≡ true) × (is_on_in redists vcpu.0 ≡ true)
IsReady s m redists (effect.ClearLpi intid vcpu) = takes_lpi redists vcpu.0 intid.0 ≡ true
IsReady s m redists (effect.Reread intid) = CanEachReread s.vcpus redists (intid.0 ∷ [])
IsReady s m redists (effect.RereadCollection icid) = EventsHaveDevices m.maps × CanEachReread s.vcpus redists (intids_of m.maps icid.0)
IsReady s m redists (effect.MoveAll from to) = HaveSameLpis (pend_in redists from.0) (pend_in redists to.0) × (is_on_in redists to.0 ≡ true)
IsReady s m redists effect.Nothing = Unit {0}
IsReady s m redists (effect.UnmapDevice dev) = Unit {0}
IsReady s m redists (effect.UnmapCollection icid) = Unit {0}
