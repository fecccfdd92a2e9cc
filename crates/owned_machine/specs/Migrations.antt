-- The outcome of migrations (KVM document arm-vgic-its, "ITS Restore Sequence"): the machine goes on from what its saved memory
-- and its registers stand for, or stays as it is.
use Rattle.std.specs.Prelude.{◌≡◌, ◌<◌, ℕ, List, length, get_or, Option, Some, None, Result, Ok, Err}
use Rattle.gicr_regs.specs.Registers.{restored_bases}
use Rattle.gicr_regs.specs.declared.values.GicrRegisters.{GicrRegisters}
use Rattle.its_plain.specs.Described.{IsFirstState, IsRefused, StartsAt, is_restored, values_of, without_stale}
use Rattle.its_plain.specs.Described.{restored_bases as described_bases}
use Rattle.its_plain.specs.Machine.{made as made_of}
use Rattle.its_plain.specs.Plain.{Plain, redistributor}
use Rattle.its_plain.specs.Regions.{savable}
use Rattle.std.specs.Option.{option_map}
use Rattle.dirty_log.specs.Copies.{caught_up}
use Rattle.dirty_log.specs.declared.tracked.Tracked.{Tracked}
use Rattle.guest_windows.specs.Windows.{Window}
use Rattle.its_plain.specs.Saved.{saved, moved, moved_count, words_of, wrote_tables}
use Rattle.its_plain.specs.declared.desc.Desc.{Desc}
use Rattle.its_plain.specs.declared.fault.SaveError.{SaveError}
use Rattle.its_plain.specs.declared.fault.SaveError.TheVariants as errors
use Rattle.its_plain.specs.declared.make.MakeError.{MakeError}
use Rattle.its_plain.specs.declared.make.MakeError.TheVariants as made
use Rattle.owned_parts.specs.Owned.{state_of_parts}
use Rattle.owned_parts.specs.declared.parts.Parts.{Parts}
use Rattle.owned_parts.specs.declared.in_place.InPlace.{InPlace}
use Rattle.owned_machine.specs.Placed.{parts_in}
use Rattle.owned_machine.specs.Whole.{IsMachine, GoesOn}

-- the pages of the tables that a save writes are dirty
abbrev pub marked : Parts → Parts
marked p = record p { track = option_map (wrote_tables (words_of (state_of_parts p))) p.track }

-- from one state to another: the moved one where it can be saved, and otherwise the same
abbrev pub Migrates : Result (Unit {0}) SaveError → Plain → Plain → Type 0
Migrates (Ok done) u w = (savable u ≡ Ok tt) × (w ≡ moved u)
Migrates (Err (errors.Fault f)) u w = (savable u ≡ Err f) × (w ≡ u)
Migrates (Err errors.NoMemory) u w = w ≡ u

-- the same, with how many pages were copied
abbrev pub Precopies : Result ℕ SaveError → Plain → Plain → Type 0
Precopies (Ok count) u w = (count ≡ moved_count u) × (savable u ≡ Ok tt) × (w ≡ moved u)
Precopies (Err (errors.Fault f)) u w = (savable u ≡ Err f) × (w ≡ u)
Precopies (Err errors.NoMemory) u w = w ≡ u

-- the parts of the moved state, or why it can't be saved
abbrev pub AreMoved : Plain → Result Parts SaveError → Type 0
AreMoved u (Ok p) = (savable u ≡ Ok tt) × GoesOn p (moved u)
AreMoved u (Err (errors.Fault f)) = savable u ≡ Err f
AreMoved u (Err errors.NoMemory) = Unit {0}

-- another memory once all is written into it, or why the state can't be saved
abbrev pub IsSavedCopy : Plain → Result (List Window) SaveError → Type 0
IsSavedCopy u (Ok memory) = (savable u ≡ Ok tt) × (memory ≡ saved u)
IsSavedCopy u (Err (errors.Fault f)) = savable u ≡ Err f
IsSavedCopy u (Err errors.NoMemory) = Unit {0}

-- with some second memory, or none, the parts are a machine's
abbrev pub AreOfMachine : InPlace → Type 0
AreOfMachine i = (track : Option Tracked) × IsMachine (record (parts_in i) { track = track })

-- the parts after a pre-copy: those of the moved state, and how many pages were copied
abbrev pub GoesOnFrom : Parts → Result ℕ SaveError → Parts → Type 0
GoesOnFrom p (Ok count) q = (count ≡ moved_count (state_of_parts p)) × (savable (state_of_parts p) ≡ Ok tt) × GoesOn q (moved (state_of_parts p))
GoesOnFrom p (Err (errors.Fault f)) q = (savable (state_of_parts p) ≡ Err f) × (q ≡ p)
GoesOnFrom p (Err errors.NoMemory) q = q ≡ p

-- guest memory after a pre-copy: the second one with its last pages, where there is one
abbrev pub memory_after : List Window → Option Tracked → List Window
memory_after memory None = memory
memory_after memory (Some t) = (caught_up memory t).copy

-- a state as the description's registers and memory tell it, with every pending bit
pub record IsReadState (d : Desc) (u : Plain) : Type 0 where
  pub base : Plain
  pub made_is : made_of d ≡ Ok base
  pub starts : StartsAt (is_restored d) (values_of d) (described_bases d) base u

-- its parts, restored where the description says so, or the first thing that is wrong
abbrev pub AreMade : Desc → Result Parts MakeError → Type 0
AreMade d (Ok p) = IsReadState d (state_of_parts p) × IsMachine p
AreMade d (Err (made.Fault f)) = IsRefused d f
AreMade d (Err made.NoMemory) = Unit {0}

-- the parts of a state without bits that no event leads to, unless memory ran out
abbrev pub IsFresh : Plain → Result Parts MakeError → Type 0
IsFresh u (Ok p) = GoesOn p (without_stale u)
IsFresh u (Err (made.Fault f)) = ⊥
IsFresh u (Err made.NoMemory) = Unit {0}

-- the parts of the first state, or the first thing that is wrong
abbrev pub AreBegun : Desc → Result Parts MakeError → Type 0
AreBegun d (Ok p) = IsFirstState d (state_of_parts p) × IsMachine p
AreBegun d (Err (made.Fault f)) = IsRefused d f
AreBegun d (Err made.NoMemory) = Unit {0}

-- the registers of the first n redistributors are read: a restore takes their bases from them
pub record AreRead (p : Parts) (registers : List GicrRegisters) (n : ℕ) : Type 0 where
  pub many : length registers ≡ n
  pub each : (vcpu : ℕ) (other : GicrRegisters) → vcpu < n → restored_bases (get_or registers vcpu other) ≡ (redistributor (state_of_parts p) vcpu).bases
