-- The outcome of the steps of making a machine, against their definitions.
use Rattle.std.specs.Prelude.{◌≡◌, Bool, false, List, Result, Ok, Err}
use Rattle.guest_windows.specs.Windows.{Window}
use Rattle.its_plain.specs.declared.desc.DescFault.{DescFault}
use Rattle.its_plain.specs.declared.desc.DescFault.TheVariants as fault
use Rattle.its_plain.specs.declared.make.MakeError.{MakeError}
use Rattle.its_plain.specs.declared.make.MakeError.TheVariants as errors

abbrev pub IsWindowFault : Bool → MakeError → Type 0
IsWindowFault are_good (errors.Fault f) = (f ≡ fault.Windows) × (are_good ≡ false)
IsWindowFault are_good errors.NoMemory = Unit {0}

abbrev pub Fills : List Window → Result (Unit {0}) MakeError → Result (List Window) DescFault → Type 0
Fills memory (Ok done) filled = filled ≡ Ok memory
Fills memory (Err (errors.Fault f)) filled = filled ≡ Err f
Fills memory (Err errors.NoMemory) filled = Unit {0}
