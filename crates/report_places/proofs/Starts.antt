-- The list of the script and the report that a check agrees with.
use Rattle.std.proofs.Common.{◌≡◌, ℕ, List, Result, Ok, Err, IfOk, refl, sym, subst}
use Rattle.event_script.specs.Script.{check_of}
use Rattle.event_script.specs.Text.{parts}
use Rattle.event_script.specs.declared.fault.ParseError.TheVariants as parsing
use Rattle.event_script.specs.declared.script.Script.{Script}
use Rattle.its_plain.specs.Described.{IsFirstState}
use Rattle.its_plain.specs.Plain.{Plain}
use Rattle.its_plain.specs.Runs.{Leg}
use Rattle.its_plain.specs.declared.make.MakeError.TheVariants as making
use Rattle.its_answers.proofs.Agreed.{reads_run}
use Rattle.its_answers.proofs.Once.{first_once}
use Rattle.its_answers.specs.Checked.{read_report}
use Rattle.its_answers.specs.Legs.{all_told}
use Rattle.its_history.specs.Reading.{IsReadAs}
use Rattle.its_history.specs.declared.reading.TraceError.{TraceError}
use Rattle.its_history.specs.declared.reading.TraceError.TheVariants as reading
use Rattle.its_history.specs.declared.trace.Leg.{Leg as LegLines}
use Rattle.trace_check.specs.Verdicts.{copies_of}
use Rattle.report_places.specs.Lists.{ListsAt}
use Rattle.its_answers.specs.Agreed.{IsAgreed}
use Rattle.report_places.specs.Says.{IsList, IsListOf}

pub of_input : (input : List ℕ) (script : Script) (report : List ℕ) (leg place : ℕ) (text : List ℕ) → IsAgreed input
    → check_of input ≡ Ok (script, parts report) → IfOk (read_report script report) (λ legs. IsList script legs leg place text)
    → IsListOf input leg place text
of_input input script report leg place text h read list =
    let r = reads_run input script report h read in
    let told : List LegLines = all_told script r.first r.histories in
    let p : IsList script told leg place text = subst (λ (o : Result (List LegLines) ℕ). IfOk o (λ legs. IsList script legs leg place text)) r.read list in
    record {
      script = script;
      first = r.first;
      report = report;
      is_input = record { read = read; starts = r.starts };
      histories = r.histories;
      is_run = r.is_run;
      read = r.read;
      text_is = p r.first r.starts (copies_of script.moves) r.histories r.is_run refl;
    }

pub of_read : (script : Script) (legs : List LegLines) (read : Result (List LegLines) ℕ) (leg place : ℕ) (text : List ℕ) → read ≡ Ok legs
    → IsList script legs leg place text → IfOk read (λ l. IsList script l leg place text)
of_read script legs read leg place text is list =
    subst (λ (r : Result (List LegLines) ℕ). IfOk r (λ l. IsList script l leg place text)) (sym is) list

of_none : (script : Script) (read : Result (List LegLines) ℕ) (line leg place : ℕ) (text : List ℕ) → read ≡ Err line
    → IfOk read (λ l. IsList script l leg place text)
of_none script read line leg place text is = subst (λ (r : Result (List LegLines) ℕ). IfOk r (λ l. IsList script l leg place text)) (sym is) tt

-- the machine's first state is the only one
pub listed : (script : Script) (told : List LegLines) (machine : Plain) (legs : List Leg) (leg place : ℕ) (text : List ℕ) → IsFirstState script.desc machine
    → legs ≡ script.legs → ListsAt machine legs told leg place text → IsList script told leg place text
listed script told machine legs leg place text starts same lists = λ first at.
    let one : machine ≡ first = first_once script.desc machine first starts at in
    subst (λ (z : Plain × List Leg). ListsAt z.0 z.1 told leg place text) (λ d. (one d, same d)) lists

-- ---- what a pattern finds

pub of_none_as : (script : Script) (read : Result (List LegLines) ℕ) (e : TraceError) (line leg place : ℕ) (text : List ℕ) → e ≡ reading.BadLine line
    → IsReadAs (Err e) read → IfOk read (λ l. IsList script l leg place text)
of_none_as script read e line leg place text is none =
    of_none script read line leg place text (subst (λ (x : TraceError). IsReadAs (Err x) read) is none)
