-- The outcome of a command of the plain machine, against its definition.
use Rattle.std.specs.Prelude.{◌≡◌, Result, Ok, Err}
use Rattle.its_plain.specs.Plain.{Plain}
use Rattle.its_plain.specs.declared.call.Reason.{Reason}
use Rattle.plain_machine.specs.declared.refusal.CommandError.{CommandError}
use Rattle.plain_machine.specs.declared.refusal.CommandError.TheVariants as errors
use Rattle.its_plain.specs.declared.fault.SaveFault.{SaveFault}
use Rattle.its_plain.specs.declared.fault.SaveError.{SaveError}
use Rattle.its_plain.specs.declared.fault.SaveError.TheVariants as save_errors

-- a refused command left the state as it was
abbrev pub Fails : Plain → Plain → CommandError → Result Plain Reason → Type 0
Fails old new errors.Memory ran = Unit {0}
Fails old new (errors.Refused reason) ran = (ran ≡ Err reason) × (new ≡ old)

abbrev pub Runs : Plain → Plain → Result (Unit {0}) CommandError → Result Plain Reason → Type 0
Runs old new (Ok done) ran = ran ≡ Ok new
Runs old new (Err e) ran = Fails old new e ran

-- the outcome of a test whether the state can be saved
abbrev pub IsTested : Result (Unit {0}) SaveError → Result (Unit {0}) SaveFault → Type 0
IsTested (Ok done) savable = savable ≡ Ok done
IsTested (Err (save_errors.Fault fault)) savable = savable ≡ Err fault
IsTested (Err save_errors.NoMemory) savable = Unit {0}
