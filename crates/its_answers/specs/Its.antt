-- What a run, a check and an explanation print, and why.
use Rattle.std.specs.Prelude.{◌≡◌, ◌⊎◌, ℕ, ◌+◌, ◌<◌, ◌≤◌, List, [], ◌∷◌, ◌++◌, length, codes, Option, None, Result, Ok, Err, IfSome}
use Rattle.its_plain.specs.Plain.{Plain}
use Rattle.its_plain.specs.History.{after}
use Rattle.its_plain.specs.Described.{IsFirstState, IsRefused}
use Rattle.its_plain.specs.Regions.{savable}
use Rattle.its_plain.specs.Runs.{Leg, IsRun, IsLegRun, IsPartOfLegRun, IsPartialRun, call_count}
use Rattle.its_plain.specs.declared.call.Entry.{Entry}
use Rattle.its_plain.specs.declared.desc.DescFault.{DescFault}
use Rattle.its_plain.specs.declared.fault.SaveFault.{SaveFault}
use Rattle.lpi_enabling.specs.Enabling.{RestoresOff, FollowEnabling}
use Rattle.event_script.specs.Script.{script_of, check_of}
use Rattle.event_script.specs.declared.fault.ScriptFault.{ScriptFault}
use Rattle.event_script.specs.declared.script.Script.{Script}
use Rattle.its_history.specs.Report.{report_text}
use Rattle.its_answers.specs.Streams.{WasRead}
use Rattle.its_answers.specs.Lines.{StartsOff}
use Rattle.its_answers.specs.Legs.{HasPlaces, HaveRun, all_told, first_told}
use Rattle.its_history.specs.Reports.{ended, cut_leg}
use Rattle.its_answers.specs.Refusals.{script_refusal, machine_refusal, spent_refusal, migration_refusal}
use Rattle.its_answers.specs.Checked.{CheckSays}
use Rattle.its_answers.specs.declared.status.Status.{Status}
use Rattle.its_answers.specs.declared.status.Status.TheVariants as status

-- ---- some bytes

pub record IsScriptRefusal (input text : List ℕ) : Type 0 where
  pub fault : ScriptFault
  pub read : script_of input ≡ Err fault
  pub same : text ≡ script_refusal fault

pub record IsMachineRefusal (input text : List ℕ) : Type 0 where
  pub script : Script
  pub fault : DescFault
  pub read : script_of input ≡ Ok script
  pub refused : IsRefused script.desc fault
  pub same : text ≡ machine_refusal script.fill_lines script.requester_lines fault

-- the bytes are a script, whose description makes a machine that starts in this state
pub record IsScript (input : List ℕ) (script : Script) (first : Plain) : Type 0 where
  pub read : script_of input ≡ Ok script
  pub starts : IsFirstState script.desc first

-- the text says something of that script's run
pub record OfScript (Says : Script → Plain → List ℕ → Type 0) (input text : List ℕ) : Type 0 where
  pub script : Script
  pub first : Plain
  pub is_script : IsScript input script first
  -- with a line `gicr` and no line `rrestore` no redistributor is restored with LPIs on
  pub off : StartsOff input → RestoresOff script.desc.tables
  pub says : Says script first text

-- ---- a script's run

-- where its machine starts in this state, the guest programs the LPI registers, and none is restored with LPIs on, an LPI is
-- delivered, taken, shown or pending only after a call that turned those of its virtual processor on
abbrev pub LpisFollow : Script → Plain → List (List Entry) → Type 0
LpisFollow script first histories = IsFirstState script.desc first → RestoresOff script.desc.tables → FollowEnabling first histories

-- the report of a run of all legs
pub record IsReport (script : Script) (first : Plain) (text : List ℕ) : Type 0 where
  pub histories : List (List Entry)
  pub is_run : IsRun first script.legs histories
  pub lpis : LpisFollow script first histories
  pub places : HasPlaces script.desc.limits.place_last script.legs
  pub same : text ≡ report_text (all_told script first histories)

-- the reports of first legs that were migrated, then the calls of the next one up to the last place, where a call is left
pub record IsSpentReport (script : Script) (first : Plain) (text : List ℕ) : Type 0 where
  pub histories : List (List Entry)
  pub now : Plain
  pub leg : Leg
  pub later : List Leg
  pub earlier : HaveRun script.desc.limits.place_last first script.legs histories now (leg ∷ later)
  pub history : List Entry
  pub is_part : IsPartOfLegRun now leg history
  pub partial : IsPartialRun first script.legs (histories ++ history ∷ [])
  pub lpis : LpisFollow script first (histories ++ history ∷ [])
  pub all_places : length history ≡ script.desc.limits.place_last
  pub more : script.desc.limits.place_last < call_count leg
  pub same : text ≡ report_text (first_told script first histories ++ cut_leg leg history ∷ []) ++ spent_refusal (length histories + 1)

-- the reports of first legs that were migrated, then the next one whole; it isn't the last, and the state after it can't be saved
pub record IsMigrationRefusal (script : Script) (first : Plain) (text : List ℕ) : Type 0 where
  pub histories : List (List Entry)
  pub now : Plain
  pub leg : Leg
  pub next : Leg
  pub later : List Leg
  pub earlier : HaveRun script.desc.limits.place_last first script.legs histories now (leg ∷ next ∷ later)
  pub history : List Entry
  pub is_run : IsLegRun now leg history
  pub partial : IsPartialRun first script.legs (histories ++ history ∷ [])
  pub lpis : LpisFollow script first (histories ++ history ∷ [])
  pub places : call_count leg ≤ script.desc.limits.place_last
  pub fault : SaveFault
  pub refused : savable (after now history) ≡ Err fault
  pub same : text ≡ report_text (first_told script first histories ++ ended now leg history None ∷ []) ++ migration_refusal (length histories + 1) fault

-- the reports of first legs that were migrated, and nothing of the next one
pub record IsCutShort (script : Script) (first : Plain) (text : List ℕ) : Type 0 where
  pub histories : List (List Entry)
  pub now : Plain
  pub leg : Leg
  pub later : List Leg
  pub earlier : HaveRun script.desc.limits.place_last first script.legs histories now (leg ∷ later)
  pub partial : IsPartialRun first script.legs (histories ++ [] ∷ [])
  pub lpis : LpisFollow script first (histories ++ [] ∷ [])
  pub same : text ≡ report_text (first_told script first histories) ++ codes "refused memory\n"

-- ---- causes

-- the outcome of reading and running at each status, and the text
abbrev pub RunCauses : Option (List ℕ) → Type 0 → Status → List ℕ → Type 0
RunCauses told rose status.Ok text = (input : List ℕ) × (WasRead told input × OfScript IsReport input text)
RunCauses told rose status.ScriptRefused text = (input : List ℕ) × (WasRead told input × IsScriptRefusal input text)
RunCauses told rose status.WordsRefused text = ⊥
RunCauses told rose status.ReadFault text = rose × (text ≡ codes "refused read\n")
RunCauses told rose status.WriteFault text = ⊥
RunCauses told rose status.Memory text = (text ≡ codes "refused memory\n") ⊎ ((input : List ℕ) × (WasRead told input × OfScript IsCutShort input text))
RunCauses told rose status.MachineRefused text = (input : List ℕ) × (WasRead told input × IsMachineRefusal input text)
RunCauses told rose status.MigrationRefused text = (input : List ℕ) × (WasRead told input × OfScript IsMigrationRefusal input text)
RunCauses told rose status.Spent text = (input : List ℕ) × (WasRead told input × OfScript IsSpentReport input text)
RunCauses told rose status.TooLong text = IfSome told (λ all. 16777216 < length all) × (text ≡ codes "refused long\n")
RunCauses told rose status.TraceDiffers text = ⊥
RunCauses told rose status.BadTrace text = ⊥
RunCauses told rose status.Undecided text = ⊥

-- ---- what is explained

-- a text begins with what is said so; what else it has is for people
pub record BeginsSo (Says : List ℕ → Type 0) (text : List ℕ) : Type 0 where
  pub line : List ℕ
  pub more : List ℕ
  pub says : Says line
  pub same : text ≡ line ++ more

-- what is said so is a report and a line, and a text begins with that line
pub record BeginsWithLine (Says IsLine : List ℕ → Type 0) (text : List ℕ) : Type 0 where
  pub report : List ℕ
  pub line : List ℕ
  pub more : List ℕ
  pub says : Says (report ++ line)
  pub is_line : IsLine line
  pub same : text ≡ line ++ more

-- the line of a refused migration
abbrev pub IsMigrationLine : List ℕ → Type 0
IsMigrationLine line = (leg : ℕ) × ((fault : SaveFault) × (line ≡ migration_refusal leg fault))

-- and of a leg without a place left
abbrev pub IsSpentLine : List ℕ → Type 0
IsSpentLine line = (leg : ℕ) × (line ≡ spent_refusal leg)

-- as `run` has it: the status is the one that it ended with, and the text begins with the line of its refusal
abbrev pub ExplainsRun : List ℕ → Status → List ℕ → Type 0
ExplainsRun input status.Ok text = (report : List ℕ) × OfScript IsReport input report
ExplainsRun input status.ScriptRefused text = BeginsSo (IsScriptRefusal input) text
ExplainsRun input status.MachineRefused text = BeginsSo (IsMachineRefusal input) text
ExplainsRun input status.MigrationRefused text = BeginsWithLine (OfScript IsMigrationRefusal input) IsMigrationLine text
ExplainsRun input status.Spent text = BeginsWithLine (OfScript IsSpentReport input) IsSpentLine text
ExplainsRun input _ text = ⊥

-- an input that is read as a script and a report is explained as `check` has it, with the line that it prints first; any other as `run`
-- has it
abbrev pub ExplainsRead : Result (Script × List (List ℕ)) ScriptFault → List ℕ → Status → List ℕ → Type 0
ExplainsRead (Ok read) input s text = BeginsSo (CheckSays input s) text
ExplainsRead (Err fault) input s text = ExplainsRun input s text

abbrev pub ExplainSays : List ℕ → Status → List ℕ → Type 0
ExplainSays input s text = ExplainsRead (check_of input) input s text

abbrev pub ExplainCauses : Option (List ℕ) → Type 0 → Status → List ℕ → Type 0
ExplainCauses told rose status.WordsRefused text = ⊥
ExplainCauses told rose status.ReadFault text = rose × (text ≡ codes "refused read\n")
ExplainCauses told rose status.WriteFault text = ⊥
ExplainCauses told rose status.Memory text = text ≡ codes "refused memory\n"
ExplainCauses told rose status.TooLong text = IfSome told (λ all. 16777216 < length all) × (text ≡ codes "refused long\n")
ExplainCauses told rose status.Undecided text = ⊥
ExplainCauses told rose s text = (input : List ℕ) × (WasRead told input × ExplainSays input s text)
