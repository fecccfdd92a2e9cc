-- How a machine is left after a leg that another follows.
use Rattle.std.specs.Prelude.{◌≡◌, ℕ, Option, Result, Ok, Err}
use Rattle.its_plain.specs.Plain.{Plain}
use Rattle.its_plain.specs.Regions.{savable}
use Rattle.its_plain.specs.Saved.{moved}
use Rattle.its_plain.specs.declared.fault.SaveError.{SaveError}
use Rattle.its_plain.specs.declared.fault.SaveError.TheVariants as errors
use Rattle.event_script.specs.declared.script.Move.{Move}
use Rattle.its_answers.specs.Moves.{pages_of}
use Rattle.its_web.specs.declared.moves.Left.{Left}
use Rattle.its_web.specs.declared.moves.Left.TheVariants as left

-- the state goes on moved, with as many pages copied before as the way says
abbrev pub GoesOn : Move → Plain → Plain → Option ℕ → Type 0
GoesOn way u w pages = (savable u ≡ Ok tt) × (w ≡ moved u) × (pages ≡ pages_of way u)

-- or it can't be saved
abbrev pub Moves : Move → Result (Option ℕ) SaveError → Plain → Plain → Type 0
Moves way (Ok pages) u w = GoesOn way u w pages
Moves way (Err (errors.Fault fault)) u w = savable u ≡ Err fault
Moves way (Err errors.NoMemory) u w = Unit {0}

abbrev pub Leaves : Move → Plain → Plain → Left → Type 0
Leaves way u w (left.On pages) = GoesOn way u w pages
Leaves way u w (left.Refused fault) = savable u ≡ Err fault
