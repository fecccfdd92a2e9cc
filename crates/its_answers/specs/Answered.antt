-- What was answered to a leg, to a script and to some bytes: a report, and the line of a refusal after it.
use Rattle.std.specs.Prelude.{◌≡◌, ◌⊎◌, ℕ, ◌<◌, ◌≤◌, List, [], ◌∷◌, ◌++◌, length, codes, Option, Some, None, Err}
use Rattle.std.specs.String.{string_bytes}
use Rattle.its_plain.specs.Plain.{Plain}
use Rattle.its_plain.specs.Described.{IsFirstState, IsRefused}
use Rattle.its_plain.specs.History.{after}
use Rattle.its_plain.specs.Regions.{savable}
use Rattle.its_plain.specs.Saved.{moved, IsSavable}
use Rattle.its_plain.specs.Runs.{Leg, IsLegRun, IsPartOfLegRun, call_count}
use Rattle.its_plain.specs.declared.call.Entry.{Entry}
use Rattle.its_plain.specs.declared.desc.DescFault.{DescFault}
use Rattle.its_plain.specs.declared.fault.SaveFault.{SaveFault}
use Rattle.event_script.specs.declared.script.Move.{Move}
use Rattle.event_script.specs.declared.script.Script.{Script}
use Rattle.its_history.specs.Merged.{open_leg}
use Rattle.its_history.specs.Report.{leg_text, report_text}
use Rattle.its_history.specs.declared.trace.End.{End}
use Rattle.its_history.specs.declared.trace.End.TheVariants.{Done}
use Rattle.its_history.specs.declared.trace.EntryLine.{EntryLine}
use Rattle.its_answers.specs.Legs.{HaveRun, first_told}
use Rattle.its_history.specs.Reports.{ended, moved_end, cut_leg}
use Rattle.its_answers.specs.Refusals.{machine_refusal, spent_refusal, migration_refusal}
use Rattle.its_answers.specs.Its.{OfScript, IsReport, IsScriptRefusal, IsMachineRefusal, IsMigrationRefusal, IsSpentReport, IsMigrationLine, IsSpentLine}
use Rattle.trace_check.specs.Verdicts.{copies_for}
use Rattle.its_answers.specs.declared.ending.Ending.{Ending}
use Rattle.its_answers.specs.declared.status.Status.{Status}
use Rattle.its_answers.specs.declared.status.Status.TheVariants as status

-- ---- a leg with a number, from a state on, and what its text makes of a report

-- it was made up to the last place, and a call is left
pub record IsLegSpent (last : ℕ) (before : Plain) (leg : Leg) (number : ℕ) (old new line : List ℕ) : Type 0 where
  pub history : List Entry
  pub is_part : IsPartOfLegRun before leg history
  pub all_places : length history ≡ last
  pub more : last < call_count leg
  pub added : new ≡ old ++ leg_text number (cut_leg leg history)
  pub line_is : line ≡ spent_refusal number

-- all its calls were made; the state after it says how it ended, if it is told
pub record IsLegWhole (last : ℕ) (before : Plain) (leg : Leg) (number : ℕ) (end : Plain → Option End) (old new : List ℕ) : Type 0 where
  pub history : List Entry
  pub is_run : IsLegRun before leg history
  pub places : call_count leg ≤ last
  pub added : new ≡ old ++ leg_text number (ended before leg history (end (after before history)))

-- and the machine was left for one that goes on
pub record IsLegMoved (way : Move) (last : ℕ) (before now : Plain) (leg : Leg) (number : ℕ) (old new : List ℕ) : Type 0 where
  pub whole : IsLegWhole last before leg number (λ u. Some (moved_end (copies_for way) u)) old new
  pub can : IsSavable (after before whole.history)
  pub now_is : now ≡ moved (after before whole.history)

-- and the state after it can't be saved
pub record IsLegRefused (last : ℕ) (before : Plain) (leg : Leg) (number : ℕ) (old new line : List ℕ) : Type 0 where
  pub whole : IsLegWhole last before leg number (λ u. None) old new
  pub fault : SaveFault
  pub refused : savable (after before whole.history) ≡ Err fault
  pub line_is : line ≡ migration_refusal number fault

-- it was the last
pub record IsLegDone (last : ℕ) (before : Plain) (leg : Leg) (number : ℕ) (old new line : List ℕ) : Type 0 where
  pub whole : IsLegWhole last before leg number (λ u. Some Done) old new
  pub line_is : line ≡ []

abbrev pub LegStops : ℕ → Plain → Leg → ℕ → List ℕ → List ℕ → Status → List ℕ → Type 0
LegStops last before leg number old new status.MigrationRefused line = IsLegRefused last before leg number old new line
LegStops last before leg number old new status.Spent line = IsLegSpent last before leg number old new line
LegStops last before leg number old new _ line = ⊥

-- what comes of the last
abbrev pub LegEnds : ℕ → Plain → Leg → ℕ → List ℕ → List ℕ → Status → List ℕ → Type 0
LegEnds last before leg number old new status.Ok line = IsLegDone last before leg number old new line
LegEnds last before leg number old new status.Spent line = IsLegSpent last before leg number old new line
LegEnds last before leg number old new _ line = ⊥

-- the entries of a leg that was cut were told
pub record IsSpentEnding (number : ℕ) (lines : List EntryLine) (old new : List ℕ) (e : Ending) : Type 0 where
  pub status_is : e.status ≡ status.Spent
  pub added : new ≡ old ++ leg_text number (open_leg lines)
  pub line_is : string_bytes e.line ≡ spent_refusal number

-- ---- a script

-- how its run from its first state ended
abbrev pub RunEnds : Script → Plain → Status → List ℕ → Type 0
RunEnds script first status.Ok text = IsReport script first text
RunEnds script first status.MigrationRefused text = IsMigrationRefusal script first text
RunEnds script first status.Spent text = IsSpentReport script first text
RunEnds script first _ text = ⊥

-- the reports of first legs, after each of which another machine went on
pub record IsSoFar (script : Script) (first : Plain) (report : List ℕ) : Type 0 where
  pub histories : List (List Entry)
  pub now : Plain
  pub leg : Leg
  pub later : List Leg
  pub earlier : HaveRun script.desc.limits.place_last first script.legs histories now (leg ∷ later)
  pub same : report ≡ report_text (first_told script first histories)

-- something is said of it from its first state
pub record FromFirst (Says : Script → Plain → List ℕ → Type 0) (script : Script) (text : List ℕ) : Type 0 where
  pub first : Plain
  pub starts : IsFirstState script.desc first
  pub says : Says script first text

-- its description makes no machine
pub record MakesNone (script : Script) (text : List ℕ) : Type 0 where
  pub fault : DescFault
  pub refused : IsRefused script.desc fault
  pub same : text ≡ machine_refusal script.fill_lines script.requester_lines fault

-- what it is answered
abbrev pub ScriptCauses : Script → Status → List ℕ → Type 0
ScriptCauses script status.Ok text = FromFirst IsReport script text
ScriptCauses script status.MachineRefused text = MakesNone script text
ScriptCauses script status.MigrationRefused text = FromFirst IsMigrationRefusal script text
ScriptCauses script status.Spent text = FromFirst IsSpentReport script text
ScriptCauses script _ text = ⊥

-- memory ran out before its run, or in a leg
abbrev pub ScriptStopsShort : Script → List ℕ → Type 0
ScriptStopsShort script report = (report ≡ []) ⊎ FromFirst IsSoFar script report

-- ---- some bytes

abbrev pub InputCauses : List ℕ → Status → List ℕ → Type 0
InputCauses input status.Ok text = OfScript IsReport input text
InputCauses input status.ScriptRefused text = IsScriptRefusal input text
InputCauses input status.MachineRefused text = IsMachineRefusal input text
InputCauses input status.MigrationRefused text = OfScript IsMigrationRefusal input text
InputCauses input status.Spent text = OfScript IsSpentReport input text
InputCauses input _ text = ⊥

-- what stands after the report is all of a refusal that has none before it, or the one line of one that has
abbrev pub IsLastLine : Status → List ℕ → List ℕ → Type 0
IsLastLine status.ScriptRefused report line = report ≡ []
IsLastLine status.MachineRefused report line = report ≡ []
IsLastLine status.MigrationRefused report line = IsMigrationLine line
IsLastLine status.Spent report line = IsSpentLine line
IsLastLine _ report line = Unit {0}

-- memory ran out before a script's run, or in a leg
abbrev pub StopsShort : List ℕ → List ℕ → Type 0
StopsShort input report = (report ≡ []) ⊎ OfScript IsSoFar input report

-- ---- a status

-- the line of a status that needs no more words
abbrev pub refusal_text : Status → List ℕ
refusal_text status.WordsRefused = codes "refused words\n"
refusal_text status.ReadFault = codes "refused read\n"
refusal_text status.Memory = codes "refused memory\n"
refusal_text status.TooLong = codes "refused long\n"
refusal_text _ = []
