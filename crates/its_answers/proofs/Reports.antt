-- A report that was read, and what a check of it came to.
use Rattle.std.proofs.Common.{◌≡◌, ℕ, List, length, Result, Ok, Err, IfOk, codes, sym, ap, subst, ◌∙◌}
use Rattle.its_plain.specs.Described.{IsFirstState}
use Rattle.its_plain.specs.Plain.{Plain}
use Rattle.its_plain.specs.Runs.{Leg, IsRun}
use Rattle.its_plain.specs.Sound.{IsSound}
use Rattle.its_plain.specs.declared.call.Entry.{Entry}
use Rattle.its_plain.specs.declared.layout.Layout.{Layout}
use Rattle.its_answers.proofs.Layouts.{first_layout}
use Rattle.event_script.specs.Limits.{IsWithinLimits}
use Rattle.event_script.specs.declared.script.Move.{Move}
use Rattle.event_script.specs.declared.script.Script.{Script}
use Rattle.std.specs.String.{string_bytes}
use Rattle.its_history.specs.ReadBack.{HasShape, ReadReportsPrint}
use Rattle.its_history.specs.Reading.{IsReadAs}
use Rattle.its_history.specs.declared.reading.TraceError.{TraceError}
use Rattle.its_history.specs.declared.reading.TraceError.TheVariants as trace
use Rattle.its_history.specs.Report.{report_text}
use Rattle.its_history.specs.declared.trace.Leg.{Leg as LegLines}
use Rattle.trace_check.specs.Differences.{IsDifference}
use Rattle.trace_check.specs.Verdicts.{IsReportOfRun, IfAgrees, IfDiffers, copies_of}
use Rattle.trace_check.specs.declared.verdict.Difference.{Difference}
use Rattle.trace_check.specs.declared.verdict.Verdict.{Verdict}
use Rattle.trace_check.specs.declared.verdict.Verdict.TheVariants.{Agrees, Differs}
use Rattle.report_reading.proofs.Reports.{run_reports}
use Rattle.its_answers.specs.Legs.{all_told}
use Rattle.its_answers.specs.Checked.{IsAgreement, IsBadTrace, IsDiffering, ReportCauses, read_report}
use Rattle.its_answers.specs.Compared.{IsBadEnding, TraceSays, VerdictSays}
use Rattle.its_answers.specs.declared.ending.Ending.{Ending}
use Rattle.its_answers.specs.declared.status.Status.{Status}
use Rattle.its_answers.specs.declared.status.Status.TheVariants as status
use Rattle.its_answers.specs.Refusals.{difference_text, trace_refusal}
use Rattle.its_answers.proofs.Once.{same_ok, not_both}

module _ (script : Script) (first : Plain) (report : List ℕ) where
  -- a check may be made of it
  pub has_shape : (told : List LegLines) → IsFirstState script.desc first → IsSound first → ReadReportsPrint → read_report script report ≡ Ok told
      → HasShape (length first.redistributors) (length script.legs) (copies_of script.moves) told
  has_shape told starts sound laws read =
      let shape : HasShape script.desc.shape.vcpus (length script.legs) (copies_of script.moves) told =
      (laws (length script.legs) (copies_of script.moves) script.desc.shape.vcpus report told read).shape in
      let vcpus : length first.redistributors ≡ script.desc.shape.vcpus = sound.vcpus ∙ ap (λ (l : Layout). l.shape.vcpus)
      (first_layout script.desc first starts) in
      subst (λ (v : ℕ). HasShape v (length script.legs) (copies_of script.moves) told) (sym vcpus) shape

  agrees : (told : List LegLines) (text : List ℕ) → ReadReportsPrint → read_report script report ≡ Ok told
      → IsReportOfRun first script.legs (copies_of script.moves) told → text ≡ codes "agrees\n" → IsAgreement script first report text
  agrees told text laws read run is = record {
    histories = run.histories;
    is_run = run.is_run;
    read = read ∙ ap (λ (ls : List LegLines). Ok ls) run.told_is;
    same = sym (laws (length script.legs) (copies_of script.moves) script.desc.shape.vcpus report told read).same ∙ ap report_text run.told_is;
    text_is = is;
  }

  -- what was read of the report of a run is that report
  module _ (within : IsWithinLimits script) (starts : IsFirstState script.desc first) where
    read_of_run : (hs : List (List Entry)) → IsRun first script.legs hs → report ≡ report_text (all_told script first hs)
        → read_report script report ≡ Ok (all_told script first hs)
    read_of_run hs run is = ap (read_report script) is ∙ run_reports script first (copies_of script.moves) hs within starts run

    differs : (told : List LegLines) (d : Difference) (text : List ℕ) → read_report script report ≡ Ok told
        → IsDifference first script.legs (copies_of script.moves) told d → ¬ IsReportOfRun first script.legs (copies_of script.moves) told
        → text ≡ difference_text d → IsDiffering script first report text
    differs told d text read there none is = record {
      told = told;
      read = read;
      none = none;
      no_run = λ hs run e. none (record {
        histories = hs;
        is_run = run;
        told_is = same_ok (read_report script report) told (all_told script first hs) read (read_of_run hs run e);
      });
      difference = d;
      differs = there;
      text_is = is;
    }

    pub trace_said : (told : List LegLines) → ReadReportsPrint → read_report script report ≡ Ok told → (s : Status) (text : List ℕ)
        → TraceSays script first told s text → ReportCauses script first report s text
    trace_said told laws read status.Ok text is = agrees told text laws read is.0 is.1
    trace_said told laws read status.ScriptRefused text is = absurd is
    trace_said told laws read status.WordsRefused text is = absurd is
    trace_said told laws read status.ReadFault text is = absurd is
    trace_said told laws read status.WriteFault text is = absurd is
    trace_said told laws read status.Memory text is = absurd is
    trace_said told laws read status.MachineRefused text is = absurd is
    trace_said told laws read status.MigrationRefused text is = absurd is
    trace_said told laws read status.Spent text is = absurd is
    trace_said told laws read status.TooLong text is = absurd is
    trace_said told laws read status.TraceDiffers text is = differs told is.0 text read is.1 is.2 is.3
    trace_said told laws read status.BadTrace text is = absurd is
    trace_said told laws read status.Undecided text is = absurd is

    is_bad : (line : ℕ) (text : List ℕ) → read_report script report ≡ Err line → text ≡ trace_refusal line → IsBadTrace script first report text
    is_bad line text read is = record {
      line = line;
      read = read;
      no_run = λ hs run e. not_both (read_report script report) (all_told script first hs) line (read_of_run hs run e) read;
      text_is = is;
    }

    -- it wasn't read
    pub bad_said : {E : Type 0} (error : TraceError) (result : Result Ending E) → IsReadAs (Err error) (read_report script report)
        → IfOk result (λ e. IsBadEnding error e.status (string_bytes e.line))
        → IfOk result (λ e. ReportCauses script first report e.status (string_bytes e.line))
    bad_said (trace.BadLine line) (Ok e) read is =
        subst (λ (s : Status). ReportCauses script first report s (string_bytes e.line)) (sym is.0) (is_bad line (string_bytes e.line) read is.1)
    bad_said trace.NoMemory (Ok e) read is = absurd is
    bad_said error (Err x) read is = tt

-- ---- what a comparison came to

verdict_of : (script : Script) (first : Plain) (told : List LegLines) (v : Verdict) (s : Status) (text : List ℕ)
    → IfAgrees v (IsReportOfRun first script.legs (copies_of script.moves) told)
    → IfDiffers v (λ d. IsDifference first script.legs (copies_of script.moves) told d)
    → IfDiffers v (λ _. ¬ IsReportOfRun first script.legs (copies_of script.moves) told) → VerdictSays v s text → TraceSays script first told s text
verdict_of script first told Agrees s text run there none is =
    subst (λ (t : Status). TraceSays script first told t text) (sym is.0) (run, is.1)
verdict_of script first told (Differs d) s text run there none is =
    subst (λ (t : Status). TraceSays script first told t text) (sym is.0) (d, there, none, is.1)

pub verdict_said : (script : Script) (first : Plain) (legs : List Leg) (moves : List Move) (told : List LegLines) (v : Verdict) (s : Status) (text : List ℕ)
    → legs ≡ script.legs → moves ≡ script.moves → IfAgrees v (IsReportOfRun first legs (copies_of moves) told)
    → IfDiffers v (λ d. IsDifference first legs (copies_of moves) told d) → IfDiffers v (λ _. ¬ IsReportOfRun first legs (copies_of moves) told)
    → VerdictSays v s text → TraceSays script first told s text
verdict_said script first legs moves told v s text same moved run there none =
    let at : (legs, moves) ≡ (script.legs, script.moves) = λ i. (same i, moved i) in
    verdict_of script first told v s text
    (subst (λ (z : List Leg × List Move). IfAgrees v (IsReportOfRun first z.0 (copies_of z.1) told)) at run)
    (subst (λ (z : List Leg × List Move). IfDiffers v (λ d. IsDifference first z.0 (copies_of z.1) told d)) at there)
    (subst (λ (z : List Leg × List Move). IfDiffers v (λ _. ¬ IsReportOfRun first z.0 (copies_of z.1) told)) at none)
