-- The parts of a machine, and those that a call reads or changes.
use Rattle.std.specs.Prelude.{◌≡◌, ℕ, zero, suc, ◌&&◌, ◌==◌, nat_lt, if◌then◌else◌, List, [], ◌∷◌, ◌++◌, length, slice_get, Option, Some, None}
use Rattle.std.specs.Option.{option_map}
use Rattle.gicr_regs.specs.Registers.{asked_by, reads_tables, changes_pending}
use Rattle.gicr_regs.specs.declared.write.GicrWrite.{GicrWrite}
use Rattle.its_command.specs.Commands.{decoded}
use Rattle.its_command.specs.declared.command.Command.{Command}
use Rattle.its_command.specs.declared.command.Command.TheVariants as command
use Rattle.its_types.specs.Maps.{Maps, event_of, collection_of}
use Rattle.its_types.specs.declared.ids.Vcpu.{Vcpu}
use Rattle.its_types.specs.declared.machine.Part.{Part}
use Rattle.its_types.specs.declared.machine.Part.TheVariants.{Maps as MapsOf, Mem, Shard, Conf, Pend}
use Rattle.its_types.specs.declared.machine.Profile.{Profile}
use Rattle.its_types.specs.declared.machine.Profile.TheVariants.{One, Two}
use Rattle.its_plain.specs.Plain.{Plain, redistributor, conf_of, pend_of, maps_of}
use Rattle.its_plain.specs.Translation.{located_target}
use Rattle.its_plain.specs.Answer.{is_idle, next_bytes}
use Rattle.its_plain.specs.declared.call.Call.{Call}
use Rattle.its_plain.specs.declared.call.Call.TheVariants as call
use Rattle.its_plain.specs.declared.call.Route.{Route}
use Rattle.its_plain.specs.declared.call.Route.TheVariants as route

-- ---- what a part is

-- the part is the same in both states: a translator's registers and maps, guest memory with its copy, or one of a redistributor's two
abbrev pub SamePart : Plain → Plain → Part → Type 0
SamePart u w (MapsOf its) = slice_get u.translators its ≡ slice_get w.translators its
SamePart u w Mem = (u.memory ≡ w.memory) × (u.track ≡ w.track)
SamePart u w (Shard its n) = Unit {0}
SamePart u w (Conf vcpu) = option_map conf_of (slice_get u.redistributors vcpu.0) ≡ option_map conf_of (slice_get w.redistributors vcpu.0)
SamePart u w (Pend vcpu) = option_map pend_of (slice_get u.redistributors vcpu.0) ≡ option_map pend_of (slice_get w.redistributors vcpu.0)

abbrev pub conf : ℕ → Part
conf vcpu = Conf (record { 0 = vcpu })

abbrev pub pend : ℕ → Part
pend vcpu = Pend (record { 0 = vcpu })

-- n translators
abbrev pub translators_below : ℕ → List Part
translators_below zero = []
translators_below (suc n) = translators_below n ++ MapsOf n ∷ []

-- the configurations of n virtual processors
abbrev pub confs_below : ℕ → List Part
confs_below zero = []
confs_below (suc n) = confs_below n ++ conf n ∷ []

-- what is pending at n virtual processors
abbrev pub pends_below : ℕ → List Part
pends_below zero = []
pends_below (suc n) = pends_below n ++ pend n ∷ []

abbrev pub every_conf : Plain → List Part
every_conf u = confs_below u.layout.shape.vcpus

-- both parts of a redistributor
abbrev pub redistributor_parts : Vcpu → List Part
redistributor_parts vcpu = Conf vcpu ∷ Pend vcpu ∷ []

-- ---- the parts of redistributors that a command reads or changes

abbrev pub pend_at : Option Vcpu → List Part
pend_at None = []
pend_at (Some vcpu) = Pend vcpu ∷ []

-- the target of an event, where the event and its collection are mapped
abbrev pub target_of_event : Maps → ℕ → ℕ → Option Vcpu
target_of_event m dev ev = elim (event_of m dev ev) [ None ↦ None | Some event ↦ collection_of m event.icid.0 ]

-- the old target and the new one, where a mapped collection gets another
abbrev pub moved_targets : Profile → Option Vcpu → ℕ → List Part
moved_targets One before to = []
moved_targets Two None to = []
moved_targets Two (Some from) to = if from.0 == to then [] else Pend from ∷ pend to ∷ []

-- both, where both are virtual processors
abbrev pub both_targets : ℕ → ℕ → ℕ → List Part
both_targets vcpus from to = if nat_lt from vcpus && nat_lt to vcpus then pend from ∷ pend to ∷ [] else []

unfoldable pub needed : Plain → ℕ → Command → List Part
needed u i (command.Movi dev ev icid) = pend_at (target_of_event (maps_of u i) dev.0 ev.0) ++ pend_at (collection_of (maps_of u i) icid.0)
needed u i (command.Int dev ev) = pend_at (target_of_event (maps_of u i) dev.0 ev.0)
needed u i (command.Clear dev ev) = pend_at (target_of_event (maps_of u i) dev.0 ev.0)
needed u i (command.Discard dev ev) = pend_at (target_of_event (maps_of u i) dev.0 ev.0)
needed u i (command.Mapc icid target valid) =
    if valid && nat_lt target u.layout.shape.vcpus then moved_targets u.layout.shape.profile (collection_of (maps_of u i) icid.0) target else []
needed u i (command.Movall from to) = both_targets u.layout.shape.vcpus from to
needed u i (command.Mapti dev ev intid icid) = every_conf u
needed u i (command.Mapi dev ev icid) = every_conf u
needed u i (command.Inv dev ev) = every_conf u
needed u i (command.Invall icid) = every_conf u
needed u i (command.Mapd dev bits itt valid) = []
needed u i (command.Sync target) = []
needed u i (command.Unknown opcode) = []

-- ---- the parts of a call

abbrev pub needed_by : Plain → ℕ → Option (List ℕ) → List Part
needed_by u i None = []
needed_by u i (Some bytes) = needed u i (decoded bytes)

-- those of the command that a step meets
abbrev pub needed_next : Plain → ℕ → List Part
needed_next u i = if is_idle u i then [] else needed_by u i (next_bytes u i)

-- those of a message
abbrev pub signal_parts : Plain → ℕ → ℕ → ℕ → List Part
signal_parts u its dev ev = MapsOf its ∷ pend_at (option_map (λ t. t.vcpu) (located_target u its dev ev))

-- those of a write by address
abbrev pub route_parts : Plain → Route → List Part
route_parts u (route.Signal its dev ev) = signal_parts u its dev.0 ev.0
route_parts u route.Poke = Mem ∷ []
route_parts u route.NoRequester = []
route_parts u route.Frame = []

-- those of a write of a redistributor's LPI registers, beside its configuration: memory where it reads tables, and what is pending where it turns LPIs on or off
abbrev pub write_parts : Vcpu → GicrWrite → List Part
write_parts vcpu w = (if reads_tables w then Mem ∷ [] else []) ++ (if changes_pending w then Pend vcpu ∷ [] else [])

unfoldable pub footprint : Plain → Call → List Part
footprint u (call.Signal its dev ev) = signal_parts u its dev.0 ev.0
footprint u (call.Take vcpu) = redistributor_parts vcpu
footprint u (call.Show vcpu) = redistributor_parts vcpu
footprint u (call.Best vcpu mask) = redistributor_parts vcpu
footprint u (call.Claim vcpu intid) = redistributor_parts vcpu
footprint u (call.Poke addr bytes) = Mem ∷ []
footprint u (call.Peek addr count) = Mem ∷ []
footprint u (call.ReadReg its off size) = MapsOf its ∷ []
footprint u (call.WriteReg its off size value) = MapsOf its ∷ []
footprint u (call.ReadGicr vcpu off size) = Conf vcpu ∷ []
footprint u (call.WriteGicr vcpu off size value) = Conf vcpu ∷ write_parts vcpu (asked_by (redistributor u vcpu.0).bases off size value)
footprint u (call.Step its) = MapsOf its ∷ Mem ∷ needed_next u its
footprint u call.Save = Mem ∷ translators_below (length u.translators) ++ confs_below (length u.redistributors) ++ pends_below (length u.redistributors)
footprint u call.Copy = Mem ∷ []
footprint u (call.Dma req addr bytes to) = route_parts u to

-- ---- agreement

abbrev pub IsIn : Part → List Part → Type 0
IsIn p ps = (n : ℕ) × (slice_get ps n ≡ Some p)

-- two states of one machine that have these parts in common
pub record AgreesOn (u w : Plain) (ps : List Part) : Type 0 where
  pub layout : u.layout ≡ w.layout
  pub translators : length u.translators ≡ length w.translators
  pub redistributors : length u.redistributors ≡ length w.redistributors
  pub parts : (p : Part) → IsIn p ps → SamePart u w p
