-- What `check` says of a script and a report.
use Rattle.std.specs.Prelude.{◌≡◌, ◌≢◌, ℕ, ◌<◌, List, length, codes, Option, Result, Ok, Err, IfSome}
use Rattle.its_plain.specs.Plain.{Plain}
use Rattle.its_plain.specs.Described.{IsFirstState, IsRefused}
use Rattle.its_plain.specs.Runs.{IsRun}
use Rattle.its_plain.specs.declared.call.Entry.{Entry}
use Rattle.its_plain.specs.declared.desc.DescFault.{DescFault}
use Rattle.event_script.specs.Script.{check_of}
use Rattle.event_script.specs.Text.{parts}
use Rattle.event_script.specs.declared.fault.ScriptFault.{ScriptFault}
use Rattle.event_script.specs.declared.script.Script.{Script}
use Rattle.its_history.specs.Reading.{trace_of}
use Rattle.its_history.specs.Report.{report_text}
use Rattle.its_history.specs.declared.trace.Leg.{Leg as LegLines}
use Rattle.trace_check.specs.Differences.{IsDifference}
use Rattle.trace_check.specs.Verdicts.{IsReportOfRun, copies_of}
use Rattle.trace_check.specs.declared.verdict.Difference.{Difference}
use Rattle.its_answers.specs.Legs.{all_told}
use Rattle.its_answers.specs.Refusals.{script_refusal, machine_refusal, trace_refusal, difference_text}
use Rattle.its_answers.specs.Streams.{WasRead}
use Rattle.its_answers.specs.declared.status.Status.{Status}
use Rattle.its_answers.specs.declared.status.Status.TheVariants as status

-- the report of a run of the script, or its first line that hasn't the shape of one
abbrev pub read_report : Script → List ℕ → Result (List LegLines) ℕ
read_report script report = trace_of (length script.legs) (copies_of script.moves) script.desc.shape.vcpus report

-- ---- a report

-- no run of the script has a report of these bytes
abbrev pub IsOfNoRun : Script → Plain → List ℕ → Type 0
IsOfNoRun script first report = (histories : List (List Entry)) → IsRun first script.legs histories
    → report ≢ report_text (all_told script first histories)

-- it is that of a run: it reads as the legs of one, and has just the bytes that they print
pub record IsAgreement (script : Script) (first : Plain) (report text : List ℕ) : Type 0 where
  pub histories : List (List Entry)
  pub is_run : IsRun first script.legs histories
  pub read : read_report script report ≡ Ok (all_told script first histories)
  pub same : report ≡ report_text (all_told script first histories)
  pub text_is : text ≡ codes "agrees\n"

-- it is that of no run, but has the shape of one; this is its first line that isn't right
pub record IsDiffering (script : Script) (first : Plain) (report text : List ℕ) : Type 0 where
  pub told : List LegLines
  pub read : read_report script report ≡ Ok told
  pub none : ¬ IsReportOfRun first script.legs (copies_of script.moves) told
  pub no_run : IsOfNoRun script first report
  pub difference : Difference
  pub differs : IsDifference first script.legs (copies_of script.moves) told difference
  pub text_is : text ≡ difference_text difference

-- it is that of no run, and hasn't the shape of one; this is its first line that is at fault
pub record IsBadTrace (script : Script) (first : Plain) (report text : List ℕ) : Type 0 where
  pub line : ℕ
  pub read : read_report script report ≡ Err line
  pub no_run : IsOfNoRun script first report
  pub text_is : text ≡ trace_refusal line

abbrev pub ReportCauses : Script → Plain → List ℕ → Status → List ℕ → Type 0
ReportCauses script first report status.Ok text = IsAgreement script first report text
ReportCauses script first report status.TraceDiffers text = IsDiffering script first report text
ReportCauses script first report status.BadTrace text = IsBadTrace script first report text
ReportCauses script first report _ text = ⊥

-- ---- some bytes

-- they are a script, whose machine starts in this state, and a report
pub record IsCheckInput (input : List ℕ) (script : Script) (first : Plain) (report : List ℕ) : Type 0 where
  pub read : check_of input ≡ Ok (script, parts report)
  pub starts : IsFirstState script.desc first

-- the text says something of them
pub record OfReport (Says : Script → Plain → List ℕ → List ℕ → Type 0) (input text : List ℕ) : Type 0 where
  pub script : Script
  pub first : Plain
  pub report : List ℕ
  pub is_input : IsCheckInput input script first report
  pub says : Says script first report text

pub record IsNoScript (input text : List ℕ) : Type 0 where
  pub fault : ScriptFault
  pub read : check_of input ≡ Err fault
  pub same : text ≡ script_refusal fault

pub record IsNoMachine (input text : List ℕ) : Type 0 where
  pub script : Script
  pub lines : List (List ℕ)
  pub fault : DescFault
  pub read : check_of input ≡ Ok (script, lines)
  pub refused : IsRefused script.desc fault
  pub same : text ≡ machine_refusal script.fill_lines script.requester_lines fault

-- what is said to bytes that were read
abbrev pub CheckSays : List ℕ → Status → List ℕ → Type 0
CheckSays input status.Ok text = OfReport IsAgreement input text
CheckSays input status.ScriptRefused text = IsNoScript input text
CheckSays input status.MachineRefused text = IsNoMachine input text
CheckSays input status.TraceDiffers text = OfReport IsDiffering input text
CheckSays input status.BadTrace text = OfReport IsBadTrace input text
CheckSays input _ text = ⊥

-- ---- causes

-- the outcome of reading and checking at each status, and the text
abbrev pub CheckCauses : Option (List ℕ) → Type 0 → Status → List ℕ → Type 0
CheckCauses told rose status.Ok text = (input : List ℕ) × (WasRead told input × OfReport IsAgreement input text)
CheckCauses told rose status.ScriptRefused text = (input : List ℕ) × (WasRead told input × IsNoScript input text)
CheckCauses told rose status.WordsRefused text = ⊥
CheckCauses told rose status.ReadFault text = rose × (text ≡ codes "refused read\n")
CheckCauses told rose status.WriteFault text = ⊥
CheckCauses told rose status.Memory text = text ≡ codes "refused memory\n"
CheckCauses told rose status.MachineRefused text = (input : List ℕ) × (WasRead told input × IsNoMachine input text)
CheckCauses told rose status.MigrationRefused text = ⊥
CheckCauses told rose status.Spent text = ⊥
CheckCauses told rose status.TooLong text = IfSome told (λ all. 16777216 < length all) × (text ≡ codes "refused long\n")
CheckCauses told rose status.TraceDiffers text = (input : List ℕ) × (WasRead told input × OfReport IsDiffering input text)
CheckCauses told rose status.BadTrace text = (input : List ℕ) × (WasRead told input × OfReport IsBadTrace input text)
CheckCauses told rose status.Undecided text = ⊥
