-- The parts of redistributors that a command reads or changes (IHI 0069, section 5.3), as two sets.
use Rattle.std.specs.Prelude.{◌≡◌, ◌↔◌, ◌<◌, ℕ, Bool, true, false, not, ◌&&◌, ◌||◌, ◌==◌, nat_lt, List, [], ◌∷◌, Option, Some, None, is_some}
use Rattle.its_command.specs.declared.command.Command.{Command}
use Rattle.its_command.specs.declared.command.Command.TheVariants as command
use Rattle.its_types.specs.Maps.{Maps, collection_of}
use Rattle.its_types.specs.declared.ids.Vcpu.{Vcpu}
use Rattle.its_types.specs.declared.machine.Part.{Part}
use Rattle.its_types.specs.declared.machine.Part.TheVariants.{Maps as MapsOf, Mem, Shard, Conf, Pend}
use Rattle.its_types.specs.declared.machine.Profile.{Profile}
use Rattle.its_types.specs.declared.machine.Profile.TheVariants.{One, Two}
use Rattle.its_types.specs.declared.machine.Shape.{Shape}
use Rattle.gits_regs.specs.Registers.{reset}
use Rattle.its_plain.specs.Plain.{Plain, maps_of}
use Rattle.its_plain.specs.Parts.{target_of_event, needed, IsIn}
use Rattle.lpi_pending.specs.InHand.{RedistParts, conf_in, pend_in}
use Rattle.owned_parts.specs.RedistSets.{is_in, is_target}
use Rattle.cmd_exec.specs.declared.needed.Needed.{Needed}

-- ---- the needed parts are those of these maps alone

-- a state of this shape with a translator that has these maps
abbrev pub bare : Shape → Maps → Plain
bare s m = record {
  layout = record { shape = s; gicr = false; described = []; track = false };
  translators = record { regs = reset 16; maps = m } ∷ [];
  redistributors = [];
  memory = [];
  track = None;
}

abbrev pub is_conf : ℕ → Part → Bool
is_conf vcpu (Conf v) = v.0 == vcpu
is_conf vcpu (Pend v) = false
is_conf vcpu (MapsOf its) = false
is_conf vcpu Mem = false
is_conf vcpu (Shard its n) = false

abbrev pub is_pend : ℕ → Part → Bool
is_pend vcpu (Pend v) = v.0 == vcpu
is_pend vcpu (Conf v) = false
is_pend vcpu (MapsOf its) = false
is_pend vcpu Mem = false
is_pend vcpu (Shard its n) = false

-- one of the parts is such a one
abbrev pub has_some : (Part → Bool) → List Part → Bool
has_some is [] = false
has_some is (p ∷ ps) = is p || has_some is ps

-- the command reads or changes the configuration of the virtual processor
abbrev pub needs_conf : Shape → Maps → Command → ℕ → Bool
needs_conf s m c vcpu = has_some (is_conf vcpu) (needed (bare s m) 0 c)

-- it reads or changes what is pending there
abbrev pub needs_pend : Shape → Maps → Command → ℕ → Bool
needs_pend s m c vcpu = has_some (is_pend vcpu) (needed (bare s m) 0 c)

-- each such part is in hand
pub record AreNeededInHand (s : Shape) (m : Maps) (c : Command) (redists : RedistParts) : Type 0 where
  pub confs : (vcpu : ℕ) → needs_conf s m c vcpu ≡ true → is_some (conf_in redists vcpu) ≡ true
  pub pends : (vcpu : ℕ) → needs_pend s m c vcpu ≡ true → is_some (pend_in redists vcpu) ≡ true

-- each collection goes to a virtual processor that there is
abbrev pub AreTargets : Shape → Maps → Type 0
AreTargets s m = (icid : ℕ) (vcpu : Vcpu) → collection_of m icid ≡ Some vcpu → vcpu.0 < s.vcpus

-- ---- the parts that two sets stand for: besides those of redistributors the maps of a translator and guest memory

abbrev pub IsPartOf : ℕ → Needed → Part → Type 0
IsPartOf its n (MapsOf i) = i ≡ its
IsPartOf its n Mem = Unit {0}
IsPartOf its n (Shard i number) = ⊥
IsPartOf its n (Conf vcpu) = is_in n.confs vcpu.0 ≡ true
IsPartOf its n (Pend vcpu) = is_in n.pends vcpu.0 ≡ true

-- they are just the parts that a step of such a translator which meets the command reads or changes
abbrev pub ArePartsOfStep : Shape → Maps → Command → Needed → Type 0
ArePartsOfStep s m c n = (u : Plain) (its : ℕ) → u.layout.shape ≡ s → maps_of u its ≡ m → (p : Part)
    → IsIn p (MapsOf its ∷ Mem ∷ needed u its c) ↔ IsPartOf its n p

-- ---- which virtual processors, command by command

-- it reads configurations, which are those of all virtual processors
abbrev pub reads_confs : Command → Bool
reads_confs (command.Mapti dev ev intid icid) = true
reads_confs (command.Mapi dev ev icid) = true
reads_confs (command.Inv dev ev) = true
reads_confs (command.Invall icid) = true
reads_confs (command.Movi dev ev icid) = false
reads_confs (command.Int dev ev) = false
reads_confs (command.Clear dev ev) = false
reads_confs (command.Discard dev ev) = false
reads_confs (command.Mapc icid target valid) = false
reads_confs (command.Movall from to) = false
reads_confs (command.Mapd dev bits itt valid) = false
reads_confs (command.Sync target) = false
reads_confs (command.Unknown opcode) = false

abbrev pub is_either : ℕ → ℕ → ℕ → Bool
is_either from to vcpu = from == vcpu || to == vcpu

-- it is the old target or the new one, where a mapped collection gets another
abbrev pub is_moved : Profile → Option Vcpu → ℕ → ℕ → Bool
is_moved One before to vcpu = false
is_moved Two None to vcpu = false
is_moved Two (Some from) to vcpu = not (from.0 == to) && is_either from.0 to vcpu

-- it reads or changes what is pending at the virtual processor
unfoldable pub is_concerned : Shape → Maps → Command → ℕ → Bool
is_concerned s m (command.Movi dev ev icid) vcpu = is_target (target_of_event m dev.0 ev.0) vcpu || is_target (collection_of m icid.0) vcpu
is_concerned s m (command.Int dev ev) vcpu = is_target (target_of_event m dev.0 ev.0) vcpu
is_concerned s m (command.Clear dev ev) vcpu = is_target (target_of_event m dev.0 ev.0) vcpu
is_concerned s m (command.Discard dev ev) vcpu = is_target (target_of_event m dev.0 ev.0) vcpu
is_concerned s m (command.Mapc icid target valid) vcpu = (valid && nat_lt target s.vcpus) && is_moved s.profile (collection_of m icid.0) target vcpu
is_concerned s m (command.Movall from to) vcpu = (nat_lt from s.vcpus && nat_lt to s.vcpus) && is_either from to vcpu
is_concerned s m (command.Mapti dev ev intid icid) vcpu = false
is_concerned s m (command.Mapi dev ev icid) vcpu = false
is_concerned s m (command.Inv dev ev) vcpu = false
is_concerned s m (command.Invall icid) vcpu = false
is_concerned s m (command.Mapd dev bits itt valid) vcpu = false
is_concerned s m (command.Sync target) vcpu = false
is_concerned s m (command.Unknown opcode) vcpu = false
