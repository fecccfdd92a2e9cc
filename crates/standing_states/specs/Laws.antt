-- What is claimed of restored states.
use Rattle.std.specs.Prelude.{◌≡◌, ℕ, true, false, if◌then◌else◌, List, length, map, slice_get, Option, Some}
use Rattle.guest_windows.specs.Windows.{Window, extent, are_windows}
use Rattle.gits_regs.specs.declared.values.RegValues.{RegValues}
use Rattle.gicr_regs.specs.Registers.{AreKept, all_restored_bases}
use Rattle.gicr_regs.specs.declared.values.GicrValues.{GicrValues}
use Rattle.its_types.specs.declared.machine.Shape.{Shape}
use Rattle.its_types.specs.declared.translation.Bases.{Bases}
use Rattle.its_plain.specs.Plain.{Plain}
use Rattle.its_plain.specs.declared.layout.Layout.{Layout}
use Rattle.its_plain.specs.Sound.{IsLayout, IsSound}
use Rattle.its_plain.specs.Stands.{Stands, IsFirstFault}
use Rattle.its_plain.specs.declared.desc.LpiTables.{LpiTables}
use Rattle.its_plain.specs.declared.desc.LpiTables.TheVariants.{Described, Registers}
use Rattle.its_plain.specs.declared.fault.RestoreFault.{RestoreFault}

-- where a restore finds the LPI tables of each virtual processor: the values of the registers say so, or the description
abbrev pub bases_to_restore : Layout → GicrValues → List Bases
bases_to_restore layout values = if layout.gicr then all_restored_bases layout.shape.vcpus values else layout.described

-- these are the values that a description gives, where it gives any
abbrev pub AreGiven : LpiTables → GicrValues → Type 0
AreGiven (Described config pending) values = Unit {0}
AreGiven (Registers given) values = given ≡ values

-- one memory and one set of registers stand for at most one state
abbrev pub AtMostOneStands : Type 0
AtMostOneStands = (memory : List Window) (values : List (Option RegValues)) (layout : Layout) (bases : List Bases) (u v : Plain)
    → Stands memory values layout bases u
    → Stands memory values layout bases v → u ≡ v

-- the redistributors of such a machine can have these bases
pub record AreBasesOf (layout : Layout) (bases : List Bases) : Type 0 where
  pub as_many : length bases ≡ layout.shape.vcpus
  pub kept : layout.gicr ≡ true → (vcpu : ℕ) (b : Bases) → slice_get bases vcpu ≡ Some b → AreKept b
  pub described : layout.gicr ≡ false → (vcpu : ℕ) (b : Bases) → slice_get bases vcpu ≡ Some b → (slice_get layout.described vcpu ≡ Some b) × (b.on ≡ true)

-- a state that memory stands for is sound
abbrev pub StandingIsSound : Type 0
StandingIsSound = (memory : List Window) (values : List (Option RegValues)) (layout : Layout) (bases : List Bases) (u : Plain) → IsLayout layout
    → AreBasesOf layout bases
    → are_windows (map extent memory) ≡ true
    → Stands memory values layout bases u → IsSound u

-- there is at most one first fault, and none where a state stands
pub record OffencesAreDecided : Type 0 where
  pub one : (memory : List Window) (values : List (Option RegValues)) (s : Shape) (bases : List Bases) (i j : ℕ) (f g : RestoreFault)
      → IsFirstFault memory values s bases i f
      → IsFirstFault memory values s bases j g → (i ≡ j) × (f ≡ g)
  pub apart : (memory : List Window) (values : List (Option RegValues)) (layout : Layout) (bases : List Bases) (u : Plain) (i : ℕ) (f : RestoreFault)
      → Stands memory values layout bases u → IsFirstFault memory values layout.shape bases i f → ⊥
