-- What it is to have a whole machine in hand: the parts are those of a sound state of the plain machine
-- (IHI 0069, chapter 5), all of them, and a call goes from one such to the next.
use Rattle.std.specs.Prelude.{◌≡◌, ℕ, ◌≤◌, Bool, true, false, not, ◌&&◌, List, Option, Some, None, is_some}
use Rattle.guest_windows.specs.Windows.{write_at}
use Rattle.its_plain.specs.Plain.{Plain, redistributor}
use Rattle.its_plain.specs.Sound.{IsSound}
use Rattle.its_plain.specs.Answer.{is_idle, next_bytes}
use Rattle.its_plain.specs.declared.call.Ack.{Ack}
use Rattle.its_plain.specs.declared.call.Ack.TheVariants as ack
use Rattle.its_plain.specs.declared.call.Call.{Call}
use Rattle.its_plain.specs.declared.call.Call.TheVariants as call
use Rattle.its_plain.specs.declared.call.Route.{Route}
use Rattle.its_plain.specs.declared.call.Route.TheVariants as route
use Rattle.its_command.specs.Commands.{decoded}
use Rattle.cmd_exec.specs.Room.{adds_to}
use Rattle.gicr_regs.specs.Registers.{asked_by}
use Rattle.lpi_pending.specs.Rooms.{is_enable}
use Rattle.owned_parts.specs.Owned.{state_of_parts, AreAllInHand}
pub use Rattle.owned_parts.specs.Places.{AreNotInHand}
use Rattle.owned_parts.specs.declared.parts.Parts.{Parts}

-- they are sound, and just the redistributors of the virtual processors are in hand, each in both parts
pub record IsMachine (p : Parts) : Type 0 where
  pub sound : IsSound (state_of_parts p)
  pub all_in_hand : AreAllInHand p.layout.shape p.redists
  pub no_others : (vcpu : ℕ) → p.layout.shape.vcpus ≤ vcpu → AreNotInHand p.redists vcpu

-- the parts after a state of the plain machine was gone on to
pub record GoesOn (p : Parts) (u : Plain) : Type 0 where
  pub state : state_of_parts p ≡ u
  pub whole : IsMachine p

-- the LPI that was acknowledged, if any
abbrev pub IfAcked : Ack → (ℕ → Type 0) → Type 0
IfAcked ack.None P = Unit {0}
IfAcked (ack.Some intid priority) P = P intid.0

-- the translator has a command to take, and doesn't refuse it, and it adds a device, an event or a collection
abbrev pub met_adds : Plain → ℕ → Option (List ℕ) → Bool
met_adds u i None = false
met_adds u i (Some bytes) = adds_to u i (decoded bytes)

unfoldable pub step_adds : Plain → ℕ → Bool
step_adds u i = not (is_idle u i) && met_adds u i (next_bytes u i)

-- one window has all the bytes
abbrev pub pokes : Plain → ℕ → List ℕ → Bool
pokes u address bytes = is_some (write_at u.memory address bytes)

-- they are written
abbrev pub pokes_by : Plain → ℕ → List ℕ → Route → Bool
pokes_by u address bytes route.Poke = pokes u address bytes
pokes_by u address bytes route.NoRequester = false
pokes_by u address bytes route.Frame = false
pokes_by u address bytes (route.Signal its dev ev) = false

-- a write to the LPI registers of a virtual processor asks to turn LPIs on, where the guest programs them
abbrev pub enables : Plain → ℕ → ℕ → ℕ → ℕ → Bool
enables u vcpu off size value = u.layout.gicr && is_enable (asked_by (redistributor u vcpu).bases off size value)

-- the calls that may want memory of the host: such a step or write, a write of guest memory, and a save
abbrev pub may_want_memory : Plain → Call → Bool
may_want_memory u (call.Step its) = step_adds u its
may_want_memory u call.Save = true
may_want_memory u (call.Signal its dev ev) = false
may_want_memory u (call.Take vcpu) = false
may_want_memory u (call.Show vcpu) = false
may_want_memory u (call.Best vcpu mask) = false
may_want_memory u (call.Claim vcpu intid) = false
may_want_memory u (call.Poke addr bytes) = pokes u addr.0 bytes
may_want_memory u (call.Dma req addr bytes to) = pokes_by u addr.0 bytes to
may_want_memory u call.Copy = false
may_want_memory u (call.Peek addr count) = false
may_want_memory u (call.ReadReg its off size) = false
may_want_memory u (call.WriteReg its off size value) = false
may_want_memory u (call.ReadGicr vcpu off size) = false
may_want_memory u (call.WriteGicr vcpu off size value) = enables u vcpu.0 off size value
