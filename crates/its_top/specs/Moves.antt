-- How a leg ends that another follows.
use Rattle.std.specs.Prelude.{◌≡◌, Err}
use Rattle.its_plain.specs.Regions.{savable}
use Rattle.event_script.specs.declared.script.Move.{Move}
use Rattle.its_answers.specs.Moves.{pages_of}
use Rattle.its_plain.specs.declared.fault.SaveError.{SaveError}
use Rattle.its_plain.specs.declared.fault.SaveError.TheVariants as errors
use Rattle.its_migrate.specs.Resting.{WentOn, resting}
use Rattle.its_migrate.specs.declared.outcome.Precopy.{Precopy as Precopied}
use Rattle.its_migrate.specs.declared.outcome.Precopy.TheVariants as precopy
use Rattle.its_turns.specs.declared.machine.Machine.{Machine}
use Rattle.its_turns.specs.declared.machine.Pass.{Pass}
use Rattle.its_top.specs.declared.moves.Left.{Left}
use Rattle.its_top.specs.declared.moves.Left.TheVariants as left

-- another machine goes on where this one could be saved, or it can't be
abbrev pub Leaves : Machine → Pass → Move → Left → Type 0
Leaves m r way (left.On next pages) = WentOn m r next.machine next.root × (pages ≡ pages_of way (resting m r))
Leaves m r way (left.Refused fault) = savable (resting m r) ≡ Err fault

-- why it can't be left, which memory running out doesn't tell
abbrev pub IsLeftFor : SaveError → Left → Type 0
IsLeftFor (errors.Fault fault) l = l ≡ left.Refused fault
IsLeftFor errors.NoMemory l = ⊥

abbrev pub precopy_error : Precopied → SaveError
precopy_error (precopy.Fault m r fault) = errors.Fault fault
precopy_error (precopy.NoMemory parts) = errors.NoMemory
