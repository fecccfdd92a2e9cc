-- What is said of a report on the way to what `check` says.
use Rattle.std.specs.Prelude.{◌≡◌, ℕ, List, codes}
use Rattle.its_plain.specs.Plain.{Plain}
use Rattle.event_script.specs.declared.script.Script.{Script}
use Rattle.its_history.specs.declared.reading.TraceError.{TraceError}
use Rattle.its_history.specs.declared.reading.TraceError.TheVariants as trace
use Rattle.its_history.specs.declared.trace.Leg.{Leg as LegLines}
use Rattle.trace_check.specs.Differences.{IsDifference}
use Rattle.trace_check.specs.Verdicts.{IsReportOfRun, copies_of}
use Rattle.trace_check.specs.declared.verdict.Difference.{Difference}
use Rattle.trace_check.specs.declared.verdict.Verdict.{Verdict}
use Rattle.trace_check.specs.declared.verdict.Verdict.TheVariants.{Agrees, Differs}
use Rattle.its_answers.specs.Answered.{FromFirst, MakesNone}
use Rattle.its_answers.specs.Checked.{IsAgreement, IsDiffering, IsBadTrace}
use Rattle.its_answers.specs.Refusals.{difference_text, trace_refusal}
use Rattle.its_answers.specs.declared.status.Status.{Status}
use Rattle.its_answers.specs.declared.status.Status.TheVariants as status

-- by what a comparison came to
abbrev pub VerdictSays : Verdict → Status → List ℕ → Type 0
VerdictSays Agrees s text = (s ≡ status.Ok) × (text ≡ codes "agrees\n")
VerdictSays (Differs d) s text = (s ≡ status.TraceDiffers) × (text ≡ difference_text d)

-- where it wasn't read, which memory running out doesn't tell
abbrev pub IsBadEnding : TraceError → Status → List ℕ → Type 0
IsBadEnding (trace.BadLine number) s text = (s ≡ status.BadTrace) × (text ≡ trace_refusal number)
IsBadEnding trace.NoMemory s text = ⊥

-- where it was read so
abbrev pub TraceSays : Script → Plain → List LegLines → Status → List ℕ → Type 0
TraceSays script first told status.Ok text = IsReportOfRun first script.legs (copies_of script.moves) told × (text ≡ codes "agrees\n")
TraceSays script first told status.TraceDiffers text =
    (d : Difference) × IsDifference first script.legs (copies_of script.moves) told d
    × ¬ IsReportOfRun first script.legs (copies_of script.moves) told × (text ≡ difference_text d)
TraceSays script first told _ text = ⊥

-- with the script
abbrev pub ReportSays : Script → List ℕ → Status → List ℕ → Type 0
ReportSays script report status.Ok text = FromFirst (λ s first t. IsAgreement s first report t) script text
ReportSays script report status.MachineRefused text = MakesNone script text
ReportSays script report status.TraceDiffers text = FromFirst (λ s first t. IsDiffering s first report t) script text
ReportSays script report status.BadTrace text = FromFirst (λ s first t. IsBadTrace s first report t) script text
ReportSays script report _ text = ⊥
