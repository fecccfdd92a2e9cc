-- What was said of a report, said of the bytes.
use Rattle.std.proofs.Common.{◌≡◌, ℕ, List, Ok}
use Rattle.its_plain.specs.Described.{IsFirstState}
use Rattle.its_plain.specs.Plain.{Plain}
use Rattle.event_script.specs.Script.{check_of}
use Rattle.event_script.specs.Text.{parts}
use Rattle.event_script.specs.declared.script.Script.{Script}
use Rattle.its_answers.specs.Answered.{FromFirst}
use Rattle.its_answers.specs.Checked.{IsAgreement, IsDiffering, IsBadTrace, OfReport, ReportCauses, CheckSays}
use Rattle.its_answers.specs.Compared.{ReportSays}
use Rattle.its_answers.specs.declared.status.Status.{Status}
use Rattle.its_answers.specs.declared.status.Status.TheVariants as status

-- ---- of a script

module _ (script : Script) (first : Plain) (report : List ℕ) (starts : IsFirstState script.desc first) where
  from_first : (Says : Script → Plain → List ℕ → List ℕ → Type 0) (text : List ℕ) → Says script first report text
      → FromFirst (λ s u t. Says s u report t) script text
  from_first Says text says = record { first = first; starts = starts; says = says }

  pub first_said : (s : Status) (text : List ℕ) → ReportCauses script first report s text → ReportSays script report s text
  first_said status.Ok text is = from_first IsAgreement text is
  first_said status.ScriptRefused text is = absurd is
  first_said status.WordsRefused text is = absurd is
  first_said status.ReadFault text is = absurd is
  first_said status.WriteFault text is = absurd is
  first_said status.Memory text is = absurd is
  first_said status.MachineRefused text is = absurd is
  first_said status.MigrationRefused text is = absurd is
  first_said status.Spent text is = absurd is
  first_said status.TooLong text is = absurd is
  first_said status.TraceDiffers text is = from_first IsDiffering text is
  first_said status.BadTrace text is = from_first IsBadTrace text is
  first_said status.Undecided text is = absurd is

-- ---- of the bytes

module _ (input : List ℕ) (script : Script) (report : List ℕ) (read : check_of input ≡ Ok (script, parts report)) where
  of_report : (Says : Script → Plain → List ℕ → List ℕ → Type 0) (text : List ℕ) → FromFirst (λ s u t. Says s u report t) script text
      → OfReport Says input text
  of_report Says text is = record {
    script = script;
    first = is.first;
    report = report;
    is_input = record { read = read; starts = is.starts };
    says = is.says;
  }

  pub report_said : (s : Status) (text : List ℕ) → ReportSays script report s text → CheckSays input s text
  report_said status.Ok text is = of_report IsAgreement text is
  report_said status.ScriptRefused text is = absurd is
  report_said status.WordsRefused text is = absurd is
  report_said status.ReadFault text is = absurd is
  report_said status.WriteFault text is = absurd is
  report_said status.Memory text is = absurd is
  report_said status.MachineRefused text is = record {
    script = script;
    lines = parts report;
    fault = is.fault;
    read = read;
    refused = is.refused;
    same = is.same;
  }
  report_said status.MigrationRefused text is = absurd is
  report_said status.Spent text is = absurd is
  report_said status.TooLong text is = absurd is
  report_said status.TraceDiffers text is = of_report IsDiffering text is
  report_said status.BadTrace text is = of_report IsBadTrace text is
  report_said status.Undecided text is = absurd is
