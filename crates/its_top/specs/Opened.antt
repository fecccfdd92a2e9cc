-- A leg on a machine that threads share, told but for its last line.
use Rattle.std.specs.Prelude.{◌≡◌, ℕ, List, ◌++◌, Err}
use Rattle.std.specs.String.{string_bytes}
use Rattle.its_plain.specs.Plain.{Plain}
use Rattle.its_plain.specs.Regions.{savable}
use Rattle.its_plain.specs.Runs.{Leg}
use Rattle.its_plain.specs.declared.fault.SaveFault.{SaveFault}
use Rattle.event_script.specs.declared.script.Move.{Move}
use Rattle.its_steps.specs.Parts.{Setup}
use Rattle.its_turns.specs.declared.machine.Machine.{Machine}
use Rattle.its_turns.specs.declared.machine.Pass.{Pass}
use Rattle.its_migrate.specs.Resting.{WentOn, resting}
use Rattle.its_answers.specs.Answered.{IsLegSpent}
use Rattle.its_answers.specs.Moves.{pages_of, move_line}
use Rattle.its_answers.specs.Opened.{IsLegOpen, IsRefusedEnding}
use Rattle.its_top.specs.declared.legs.Goes.{Goes}
use Rattle.its_top.specs.declared.legs.Goes.TheVariants.{On, Ends}
use Rattle.its_top.specs.declared.legs.Opened.{Opened}
use Rattle.its_top.specs.declared.legs.Opened.TheVariants as opened
use Rattle.its_answers.specs.declared.status.Status.TheVariants as status

-- what comes of its calls on a machine that was made so
abbrev pub LegOpens : Setup → Plain → Leg → ℕ → List ℕ → List ℕ → Opened → Type 0
LegOpens s now leg number old new (opened.Whole text) =
    IsLegOpen s.limits.place_last s.start now leg number (string_bytes text) × (new ≡ old)
LegOpens s now leg number old new (opened.Spent e) =
    (e.status ≡ status.Spent) × IsLegSpent s.limits.place_last s.start leg number old new (string_bytes e.line)

-- what comes of leaving its machine
abbrev pub LegIsLeft : Machine → Pass → Move → ℕ → List ℕ → List ℕ → List ℕ → Goes → Type 0
LegIsLeft m r way number text old new (On next) =
    WentOn m r next.machine next.root × (new ≡ old ++ (text ++ move_line (pages_of way (resting m r))))
LegIsLeft m r way number text old new (Ends e) =
    (fault : SaveFault) × (savable (resting m r) ≡ Err fault) × IsRefusedEnding number fault text old new e
