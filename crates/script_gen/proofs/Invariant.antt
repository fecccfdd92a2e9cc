-- What every call of a generated script keeps, in whichever order they come: its tables stand where they are meant to.
use Rattle.std.proofs.Common.{◌≡◌, ◌⊎◌, ℕ, ◌+◌, ◌*◌, ◌<◌, ◌≤◌, true, List, [], ◌∷◌, length, map, Some}
use Rattle.guest_windows.specs.Windows.{Window, extent, read_at}
use Rattle.gits_regs.specs.Registers.{Registers}
use Rattle.its_command.specs.Commands.{decoded}
use Rattle.its_command.specs.declared.command.Command.{Command}
use Rattle.its_command.specs.declared.command.Command.TheVariants.{Mapd}
use Rattle.its_types.specs.Maps.{Maps, device_of}
use Rattle.its_types.specs.declared.translation.Device.{Device}
use Rattle.its_plain.specs.Machine.{layout_of}
use Rattle.its_plain.specs.Plain.{Plain, regs_of, maps_of}
use Rattle.its_plain.specs.Sound.{IsSound}
use Rattle.its_plain.specs.declared.call.Call.{Call}
use Rattle.its_plain.specs.declared.call.Call.TheVariants as call
use Rattle.script_gen.specs.Description.{description}
use Rattle.script_gen.specs.Commands.{itt_of}
use Rattle.script_gen.specs.Generated.{queue}

-- one of the script's n devices, with its own interrupt translation table
pub record IsOwn (n dev bits itt : ℕ) : Type 0 where
  pub first : 1 ≤ dev
  pub last : dev ≤ n
  pub bits_are : bits ≡ 6
  pub itt_is : itt ≡ itt_of dev

-- a command that maps no other device
abbrev pub IsAllowed : ℕ → Command → Type 0
IsAllowed n (Mapd dev bits itt valid) = valid ≡ true → IsOwn n dev.0 bits itt
IsAllowed n _ = Unit {0}

abbrev pub IsEither : ℕ → ℕ → ℕ → Type 0
IsEither a b x = (x ≡ a) ⊎ (x ≡ b)

-- at reset, or as the script writes them
pub record AreRegisters (r : Registers) : Type 0 where
  pub cbaser : IsEither 0 0x8000000080020000 r.cbaser
  pub baser0 : IsEither 0x0107000000000200 0x8107000080000200 r.baser0
  pub baser1 : IsEither 0x0407000000000200 0x8407000080010200 r.baser1

abbrev pub AreDevices : ℕ → Maps → Type 0
AreDevices n m = (dev : ℕ) (d : Device) → device_of m dev ≡ Some d → IsOwn n dev d.bits d.itt.0

-- each place of the queue holds a command that is allowed
abbrev pub IsQueue : ℕ → List Window → Type 0
IsQueue n memory = (k : ℕ) (bytes : List ℕ) → k < 128 → read_at memory (queue + 32 * k) 32 ≡ Some bytes → IsAllowed n (decoded bytes)

abbrev pub extents : List (ℕ × ℕ)
extents = (0x80000000, 0x200000) ∷ []

pub record IsKept (n : ℕ) (u : Plain) : Type 0 where
  pub sound : IsSound u
  pub layout : u.layout ≡ layout_of description
  pub one : length u.translators ≡ 1
  pub windows : map extent u.memory ≡ extents
  pub regs : AreRegisters (regs_of u 0)
  pub devices : AreDevices n (maps_of u 0)
  pub queue : IsQueue n u.memory

-- ---- the calls of the script

-- the registers and values that it writes; GITS_CWRITER takes any
pub data IsWrite : ℕ → ℕ → ℕ → Type 0 where
  ctlr : IsWrite 0x0 4 1
  cbaser : IsWrite 0x80 8 0x8000000080020000
  cwriter : (value : ℕ) → IsWrite 0x88 8 value
  baser0 : IsWrite 0x100 8 0x8107000080000200
  baser1 : IsWrite 0x108 8 0x8407000080010200

-- the bytes are an allowed command, at a place of the queue
pub record IsPut (n address : ℕ) (bytes : List ℕ) : Type 0 where
  pub place : ℕ
  pub in_queue : place < 128
  pub address_is : address ≡ queue + 32 * place
  pub count : length bytes ≡ 32
  pub allowed : IsAllowed n (decoded bytes)

abbrev pub IsGiven : ℕ → Call → Type 0
IsGiven n (call.Signal its dev ev) = Unit {0}
IsGiven n (call.Poke addr bytes) = IsPut n addr.0 bytes
IsGiven n (call.WriteReg its off size value) = (its ≡ 0) × IsWrite off size value
IsGiven n (call.Step its) = its ≡ 0
IsGiven n _ = ⊥
