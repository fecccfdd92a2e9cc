-- The outcome of making a machine: registers at reset, nothing mapped, nothing pending, and the configuration as memory has it
-- (IHI 0069, section 5.1).
use Rattle.std.specs.Prelude.{◌≡◌, ℕ, ◌<◌, ◌≤◌, true, List, [], length, slice_get, Some, Result, Ok, Err}
use Rattle.guest_windows.specs.Windows.{Window, inside}
use Rattle.its_types.specs.Ranges.{lpi_count}
use Rattle.its_types.specs.declared.machine.Shape.{Shape}
use Rattle.gits_regs.specs.Registers.{reset}
use Rattle.its_types.specs.Maps.{no_maps}
use Rattle.its_plain.specs.Plain.{Redistributor, Translator}
use Rattle.its_plain.specs.Machine.{made, started, layout_of, first_redistributors, ◌>>=◌, all_frames_fit, all_new}
use Rattle.its_plain.specs.declared.desc.DescFault.{DescFault}
use Rattle.guest_windows.specs.Fields.{pairs}
use Rattle.its_plain.specs.declared.desc.Desc.{Desc}
use Rattle.its_plain.specs.declared.layout.Layout.{Layout}
use Rattle.its_plain.specs.declared.desc.LpiTables.{LpiTables}
use Rattle.its_plain.specs.declared.desc.LpiTables.TheVariants.{Described, Registers}
use Rattle.its_plain.specs.declared.make.MakeError.{MakeError}
use Rattle.its_plain.specs.declared.make.MakeError.TheVariants as errors
use Rattle.lpi_config.specs.Conf.{Conf}
use Rattle.lpi_pending.specs.InHand.{RedistParts, HasLpisOfConf, HasLpisOfPend, redistributor_of}
use Rattle.lpi_pending.specs.PendingSets.{none_pending}
use Rattle.lpi_pending.specs.Pend.{Pend}
use Rattle.owned_parts.specs.Owned.{state_of_parts}
use Rattle.owned_parts.specs.Places.{AreInHandAt, AreNotInHand}
use Rattle.owned_parts.specs.declared.parts.Parts.{Parts}
use Rattle.owned_machine.specs.Whole.{IsMachine}

-- all is well with the description, if memory then has its tables; otherwise this is the first thing that is wrong
abbrev pub IsFilled : Desc → Result (List Window) MakeError → Type 0
IsFilled d (Ok memory) = made d ≡ (first_redistributors d.shape memory d.tables >>= λ rs. Ok (started d memory rs))
IsFilled d (Err (errors.Fault f)) = made d ≡ Err f
IsFilled d (Err errors.NoMemory) = Unit {0}

-- the frames and the requesters of a description, or the first thing that is wrong with them
abbrev pub devices_test : Desc → Result (Unit {0}) DescFault
devices_test d = all_frames_fit (pairs d.windows) 0 d.translators >>= λ _. all_new [] 0 d.requesters

-- the configuration table lies in memory, where one is described
abbrev pub HasConfig : Shape → List Window → LpiTables → Type 0
HasConfig s memory (Described config pending) = inside memory config.0 (lpi_count s.lpi_bits) ≡ true
HasConfig s memory (Registers values) = Unit {0}

-- a translator whose registers are at reset, with nothing mapped
abbrev pub reset_translator : ℕ → Translator
reset_translator dev_bits = record { regs = reset dev_bits; maps = no_maps }

-- the parts of a redistributor in hand are those of one of these
pub record IsFirst (s : Shape) (rs : List Redistributor) (vcpu : ℕ) (c : Conf) (p : Pend) : Type 0 where
  pub conf_lpis : HasLpisOfConf s c
  pub pend_lpis : HasLpisOfPend s p
  pub same : slice_get rs vcpu ≡ Some (redistributor_of c p)

-- whatever these are that the tables make
abbrev pub IsFirstOf : Shape → List Window → LpiTables → ℕ → Conf → Pend → Type 0
IsFirstOf s memory t vcpu c p = (rs : List Redistributor) → first_redistributors s memory t ≡ Ok rs → IsFirst s rs vcpu c p

-- nothing is pending, and LPIs are taken where they are on
abbrev pub idle_pend : Shape → Conf → Pend
idle_pend s c = record { pending = none_pending s.lpi_bits; accepts = c.bases.on }

-- those of the first n virtual processors are in hand, and no other
pub record AreFirst (s : Shape) (memory : List Window) (t : LpiTables) (redists : RedistParts) (n : ℕ) : Type 0 where
  pub confs : length redists.confs ≡ s.vcpus
  pub pends : length redists.pends ≡ s.vcpus
  pub each : (vcpu : ℕ) → vcpu < n → (c : Conf) × (p : Pend) × AreInHandAt redists vcpu c p × IsFirstOf s memory t vcpu c p
  pub rest : (vcpu : ℕ) → n ≤ vcpu → AreNotInHand redists vcpu

-- the parts of the first state
pub record AreFirstParts (d : Desc) (p : Parts) : Type 0 where
  pub made_is : made d ≡ Ok (state_of_parts p)
  pub layout : p.layout ≡ layout_of d
  pub whole : IsMachine p

-- the layout and the memory are those of such parts
abbrev pub AreOfFirst : Desc → Layout → List Window → Type 0
AreOfFirst d layout memory = (p : Parts) × AreFirstParts d p × (p.layout ≡ layout) × (p.memory ≡ memory)

-- or the first thing that is wrong with the description, unless memory ran out
abbrev pub AreStarted : Desc → Result Parts MakeError → Type 0
AreStarted d (Ok p) = AreFirstParts d p
AreStarted d (Err (errors.Fault f)) = made d ≡ Err f
AreStarted d (Err errors.NoMemory) = Unit {0}
