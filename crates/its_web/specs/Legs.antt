-- What comes of a leg with a number, on a machine from one state to another, and what is told of it: a report goes from `old` to `new`.
use Rattle.std.specs.Prelude.{◌≡◌, ℕ, List, ◌++◌, Option, Some, None, Ok, Err}
use Rattle.std.specs.String.{string_bytes}
use Rattle.its_plain.specs.Plain.{Plain}
use Rattle.its_plain.specs.Regions.{savable}
use Rattle.its_plain.specs.Saved.{moved}
use Rattle.its_plain.specs.Runs.{Leg}
use Rattle.its_plain.specs.declared.fault.SaveFault.{SaveFault}
use Rattle.event_script.specs.declared.script.Move.{Move}
use Rattle.its_answers.specs.Answered.{IsLegMoved, IsLegSpent, LegStops}
use Rattle.its_answers.specs.Moves.{pages_of, move_line}
use Rattle.its_answers.specs.Opened.{IsLegOpen, IsRefusedEnding}
use Rattle.its_answers.specs.declared.ending.Ending.{Ending}
use Rattle.its_answers.specs.declared.status.Status.TheVariants as status
use Rattle.its_web.specs.declared.legs.Opened.{Opened}
use Rattle.its_web.specs.declared.legs.Opened.TheVariants as opened

-- of its calls
abbrev pub LegOpens : ℕ → Plain → Plain → Leg → ℕ → List ℕ → List ℕ → Opened → Type 0
LegOpens last u w leg number old new (opened.Whole text) = IsLegOpen last u w leg number (string_bytes text) × (new ≡ old)
LegOpens last u w leg number old new (opened.Spent e) = (e.status ≡ status.Spent) × IsLegSpent last u leg number old new (string_bytes e.line)

-- of leaving the machine once the leg's text is told, but for its last line
abbrev pub LegIsLeft : Plain → Plain → Move → ℕ → List ℕ → List ℕ → List ℕ → Option Ending → Type 0
LegIsLeft u w way number text old new None = (savable u ≡ Ok tt) × (w ≡ moved u) × (new ≡ old ++ (text ++ move_line (pages_of way u)))
LegIsLeft u w way number text old new (Some e) = (fault : SaveFault) × (savable u ≡ Err fault) × IsRefusedEnding number fault text old new e

-- of one that isn't the last: the run goes on, or it ends here
abbrev pub LegGoes : ℕ → Plain → Plain → Leg → ℕ → Move → List ℕ → List ℕ → Option Ending → Type 0
LegGoes last u w leg number way old new None = IsLegMoved way last u w leg number old new
LegGoes last u w leg number way old new (Some e) = LegStops last u leg number old new e.status (string_bytes e.line)
