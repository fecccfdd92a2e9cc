-- What a write has in hand, and the parts that are held then, the last one got first.
use Rattle.std.specs.Prelude.{◌≡◌, Bool, true, if◌then◌else◌, List, [], ◌∷◌, Option, Some, None, is_some, Box}
use Rattle.std.specs.Global.{Global}
use Rattle.std.specs.Option.{option_map}
use Rattle.dirty_log.specs.declared.tracked.Tracked.{Tracked}
use Rattle.gicr_regs.specs.Registers.{AreLow, conf_done_by, done_by, reads_tables, changes_pending}
use Rattle.guest_windows.specs.Windows.{Window}
use Rattle.its_types.specs.declared.ids.Vcpu.{Vcpu}
use Rattle.its_types.specs.declared.machine.Part.TheVariants as part
use Rattle.its_types.specs.declared.machine.Shape.{Shape}
use Rattle.its_plain.specs.Plain.{Redistributor, ConfState, PendState, conf_of, pend_of, joined}
use Rattle.its_steps.specs.Contents.{Held, Mem, Conf, Pend}
use Rattle.its_steps.specs.World.{out}
use Rattle.its_turns.specs.declared.value.GuestMemory.{GuestMemory}
use Rattle.lpi_pending.specs.Pend.{Pend as PendInHand}
use Rattle.lpi_pending.specs.Rooms.{HasRoomFor}
use Rattle.lpi_pending.specs.declared.gicr.LpiRoom.{LpiRoom}
use Rattle.lpi_pending.specs.InHand.{AreEmpty}
use Rattle.owned_parts.specs.Owned.{conf_state, pend_state, HasLpisOfConf, HasLpisOfPend}
use Rattle.gicr_lpi.specs.Accesses.{asked}
use Rattle.gicr_lpi.specs.declared.access.GicrAccess.{GicrAccess}
use Rattle.gicr_lpi.specs.declared.hand.Hand.{Hand}

-- what is in hand, as the plain machine has it
pub record HandState : Type 0 where
  pub memory : Option (List Window × Option Tracked)
  pub conf : ConfState
  pub pend : Option PendState

abbrev pub memory_state : Option (Box GuestMemory Global) → Option (List Window × Option Tracked)
memory_state o = option_map (λ b. (b.value.memory, b.value.track)) o

abbrev pub pend_of_hand : Option (Box PendInHand Global) → Option PendState
pend_of_hand o = option_map (λ b. pend_state b.value) o

abbrev pub state_of : Hand → HandState
state_of h = record { memory = memory_state h.memory; conf = conf_state h.conf.value; pend = pend_of_hand h.pend }

-- ---- as it is held

abbrev pub memory_before : Option (List Window × Option Tracked) → List Held → List Held
memory_before None others = others
memory_before (Some m) others = out part.Mem (Mem m.0 m.1) ∷ others

abbrev pub pend_before : Vcpu → Option PendState → List Held → List Held
pend_before vcpu None others = others
pend_before vcpu (Some p) others = out (part.Pend vcpu) (Pend p) ∷ others

-- memory was got first, and what is pending last
abbrev pub held_of : Vcpu → HandState → List Held
held_of vcpu h = pend_before vcpu h.pend (out (part.Conf vcpu) (Conf h.conf) ∷ memory_before h.memory [])

-- ---- what the write does with it

-- there is what it asks for
pub record HasEnough (a : GicrAccess) (h : HandState) : Type 0 where
  pub memory : reads_tables (asked a h.conf) ≡ true → is_some h.memory ≡ true
  pub pend : changes_pending (asked a h.conf) ≡ true → is_some h.pend ≡ true

-- the write takes no memory, or this room: some where the guest programs the tables, and the write asks to turn LPIs on
abbrev pub HasRoom : Bool → Shape → GicrAccess → HandState → Option LpiRoom → Type 0
HasRoom programmed s a h room = programmed ≡ true → HasRoomFor s.lpi_bits (asked a h.conf) room

abbrev pub windows_in : Option (List Window × Option Tracked) → List Window
windows_in None = []
windows_in (Some m) = m.0

abbrev pub with_both : HandState → Redistributor → HandState
with_both h r = record h { conf = conf_of r; pend = Some (pend_of r) }

abbrev pub done_to : Shape → GicrAccess → HandState → Option PendState → HandState
done_to s a h None = record h { conf = conf_done_by s (windows_in h.memory) (asked a h.conf) h.conf }
done_to s a h (Some p) = with_both h (done_by s (windows_in h.memory) (asked a h.conf) (joined h.conf p))

-- nothing, unless the guest programs the tables
abbrev pub after_write : Bool → Shape → GicrAccess → HandState → HandState
after_write programmed s a h = if programmed then done_to s a h h.pend else h

-- ---- what holds of it

abbrev pub HasLpisIfPend : Shape → Option (Box PendInHand Global) → Type 0
HasLpisIfPend s None = Unit {0}
HasLpisIfPend s (Some b) = HasLpisOfPend s b.value

-- memory comes with an empty place for each part of each redistributor
abbrev pub HasPlacesIfMemory : Shape → Option (Box GuestMemory Global) → Type 0
HasPlacesIfMemory s None = Unit {0}
HasPlacesIfMemory s (Some b) = AreEmpty s.vcpus b.value.redists

-- it has the machine's LPIs and places, and low bases
pub record IsHand (s : Shape) (h : Hand) : Type 0 where
  pub places : HasPlacesIfMemory s h.memory
  pub conf_lpis : HasLpisOfConf s h.conf.value
  pub pend_lpis : HasLpisIfPend s h.pend
  pub low : AreLow h.conf.value.bases
