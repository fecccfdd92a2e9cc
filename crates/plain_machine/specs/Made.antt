-- The outcome of making a machine, against its definition.
use Rattle.std.specs.Prelude.{◌≡◌, ◌<◌, ◌^◌, ℕ, All, Bool, false, List, Option, Some, None, Result, Ok, Err}
use Rattle.std.specs.Global.{Vec}
use Rattle.guest_windows.specs.Windows.{Window}
use Rattle.its_types.specs.declared.ids.Addr.{Addr}
use Rattle.its_plain.specs.Plain.{Plain, Redistributor}
use Rattle.its_plain.specs.Machine.{started}
use Rattle.its_plain.specs.declared.desc.Desc.{Desc}
use Rattle.its_plain.specs.declared.desc.LpiTables.{LpiTables}
use Rattle.its_plain.specs.declared.desc.LpiTables.TheVariants.{Described, Registers}
use Rattle.its_plain.specs.declared.desc.DescFault.{DescFault}
use Rattle.its_plain.specs.declared.desc.DescFault.TheVariants as fault
use Rattle.its_plain.specs.declared.make.MakeError.{MakeError}
use Rattle.its_plain.specs.declared.make.MakeError.TheVariants as errors

abbrev pub IsMade : Result Plain MakeError → Result Plain DescFault → Type 0
IsMade (Ok state) made = made ≡ Ok state
IsMade (Err (errors.Fault f)) made = made ≡ Err f
IsMade (Err errors.NoMemory) made = Unit {0}

-- the redistributors with which memory makes the machine
abbrev pub IsPrepared : Desc → List Window → Result (Vec Redistributor) MakeError → Result Plain DescFault → Type 0
IsPrepared d memory (Ok redistributors) made = made ≡ Ok (started d memory redistributors.items)
IsPrepared d memory (Err (errors.Fault f)) made = made ≡ Err f
IsPrepared d memory (Err errors.NoMemory) made = Unit {0}

-- the start, unless memory ran out
abbrev pub IsStarted : Result Plain MakeError → Plain → Type 0
IsStarted (Ok state) start = state ≡ start
IsStarted (Err e) start = e ≡ errors.NoMemory

-- the outcome of a check, unless memory ran out
abbrev pub IsChecked : Result (Unit {0}) MakeError → Result (Unit {0}) DescFault → Type 0
IsChecked (Ok done) check = check ≡ Ok done
IsChecked (Err (errors.Fault f)) check = check ≡ Err f
IsChecked (Err errors.NoMemory) check = Unit {0}

abbrev pub IsWindowFault : Bool → MakeError → Type 0
IsWindowFault are_good (errors.Fault f) = (f ≡ fault.Windows) × (are_good ≡ false)
IsWindowFault are_good errors.NoMemory = Unit {0}

abbrev pub Fills : List Window → Result (Unit {0}) MakeError → Result (List Window) DescFault → Type 0
Fills memory (Ok done) filled = filled ≡ Ok memory
Fills memory (Err (errors.Fault f)) filled = filled ≡ Err f
Fills memory (Err errors.NoMemory) filled = Unit {0}

abbrev pub Reads : Result (Vec ℕ) MakeError → Option (List ℕ) → Type 0
Reads (Ok bytes) read = read ≡ Some bytes.items
Reads (Err (errors.Fault f)) read = (f ≡ fault.Config) × (read ≡ None)
Reads (Err errors.NoMemory) read = Unit {0}

-- the described tables stand below 2^52
abbrev pub AreLow : LpiTables → Type 0
AreLow (Described config pending) = (config.0 < 2 ^ 52) × All (λ (a : Addr). a.0 < 2 ^ 52) pending
AreLow (Registers values) = Unit {0}

abbrev pub AreFirst : Result (Vec Redistributor) MakeError → Result (List Redistributor) DescFault → Type 0
AreFirst (Ok redistributors) first = first ≡ Ok redistributors.items
AreFirst (Err (errors.Fault f)) first = first ≡ Err f
AreFirst (Err errors.NoMemory) first = Unit {0}
