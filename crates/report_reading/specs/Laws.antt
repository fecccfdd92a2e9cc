-- What is claimed of the reports of runs.
use Rattle.std.specs.Prelude.{◌≡◌, Bool, List, length, Ok}
use Rattle.its_plain.specs.Plain.{Plain}
use Rattle.its_plain.specs.Answer.{answer}
use Rattle.its_plain.specs.Described.{IsFirstState}
use Rattle.its_plain.specs.Runs.{IsRun}
use Rattle.its_plain.specs.Saved.{moved}
use Rattle.its_plain.specs.declared.call.Call.{Call}
use Rattle.its_plain.specs.declared.call.Entry.{Entry}
use Rattle.its_plain.specs.declared.desc.Desc.{Desc}
use Rattle.event_script.specs.Limits.{IsWithinLimits}
use Rattle.event_script.specs.declared.script.Script.{Script}
use Rattle.its_history.specs.Reading.{trace_of}
use Rattle.its_history.specs.Report.{report_text}
use Rattle.its_history.specs.Reports.{reported}
use Rattle.report_reading.specs.Bytes.{HasBytes, FillBytes, GivesBytes, TellsBytes}

-- ---- bytes

-- restored or not
abbrev pub MachinesStartWithBytes : Type 0
MachinesStartWithBytes = (d : Desc) (u : Plain) → FillBytes d.fills → IsFirstState d u → HasBytes u

abbrev pub CallsKeepBytes : Type 0
CallsKeepBytes = (u : Plain) (c : Call) → GivesBytes c → HasBytes u → HasBytes (answer u c).1

abbrev pub RepliesTellBytes : Type 0
RepliesTellBytes = (u : Plain) (c : Call) → HasBytes u → TellsBytes (answer u c).0

abbrev pub MigrationsKeepBytes : Type 0
MigrationsKeepBytes = (u : Plain) → HasBytes u → HasBytes (moved u)

-- ---- reports

-- each run of a script from its machine's first state has a report that is read as it is, before whichever migrations pages are copied
abbrev pub RunReportsAreRead : Type 0
RunReportsAreRead =
    (script : Script) (first : Plain) (copies : List Bool) (histories : List (List Entry)) → IsWithinLimits script → IsFirstState script.desc first
    → IsRun first script.legs histories
    → trace_of (length script.legs) copies script.desc.shape.vcpus (report_text (reported first script.legs copies histories))
    ≡ Ok (reported first script.legs copies histories)
