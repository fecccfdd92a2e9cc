-- The picture of the script and the report that a check agrees with.
use Rattle.std.proofs.Common.{◌≡◌, ℕ, List, [], ◌++◌, Result, Ok, Err, IfOk, refl, ap, sym, subst, ◌∙◌}
use Rattle.event_script.specs.Script.{check_of}
use Rattle.event_script.specs.Text.{parts}
use Rattle.event_script.specs.declared.fault.ParseError.TheVariants as parsing
use Rattle.event_script.specs.declared.script.Script.{Script}
use Rattle.its_plain.specs.Described.{IsFirstState}
use Rattle.its_plain.specs.Plain.{Plain}
use Rattle.its_plain.specs.Runs.{IsRun}
use Rattle.its_plain.specs.declared.make.MakeError.TheVariants as making
use Rattle.its_answers.proofs.Agreed.{reads_run}
use Rattle.its_answers.proofs.Once.{first_once}
use Rattle.its_answers.specs.Checked.{read_report}
use Rattle.its_answers.specs.Legs.{all_told}
use Rattle.its_history.specs.Reading.{IsReadAs}
use Rattle.its_history.specs.declared.reading.TraceError.{TraceError}
use Rattle.its_history.specs.declared.reading.TraceError.TheVariants as reading
use Rattle.its_history.specs.declared.trace.Leg.{Leg as LegLines}
use Rattle.its_draw.specs.Replays.{ShowsRuns, all_lines, all_marks, marks, told}
use Rattle.its_draw.specs.declared.drawing.Shown.{Shown}
use Rattle.its_answers.specs.Agreed.{IsAgreed}
use Rattle.its_draw.specs.Draws.{IsDrawn, IsPicture, IsPictureOf}

pub of_input : (input : List ℕ) (script : Script) (report text : List ℕ) → IsAgreed input → check_of input ≡ Ok (script, parts report)
    → IfOk (read_report script report) (λ legs. IsPicture script legs text) → IsPictureOf input text
of_input input script report text h read picture =
    let r = reads_run input script report h read in
    let told : List LegLines = all_told script r.first r.histories in
    let p : IsPicture script told text = subst (λ (o : Result (List LegLines) ℕ). IfOk o (λ legs. IsPicture script legs text)) r.read picture in
    record {
      script = script;
      first = r.first;
      report = report;
      is_input = record { read = read; starts = r.starts };
      histories = r.histories;
      is_run = r.is_run;
      read = r.read;
      drawing = p.drawing;
      lines_are = p.is_drawn.lines_are;
      marks_are = p.is_drawn.marks_are r.first r.starts r.histories r.is_run refl;
      text_is = p.text_is;
    }

pub of_read : (script : Script) (legs : List LegLines) (read : Result (List LegLines) ℕ) (text : List ℕ) → read ≡ Ok legs → IsPicture script legs text
    → IfOk read (λ l. IsPicture script l text)
of_read script legs read text is picture = subst (λ (r : Result (List LegLines) ℕ). IfOk r (λ l. IsPicture script l text)) (sym is) picture

pub of_none : (script : Script) (read : Result (List LegLines) ℕ) (line : ℕ) (text : List ℕ) → read ≡ Err line → IfOk read (λ l. IsPicture script l text)
of_none script read line text is = subst (λ (r : Result (List LegLines) ℕ). IfOk r (λ l. IsPicture script l text)) (sym is) tt

drawn_lines : (first shown calls : List Shown) (lines : List (ℕ × List ℕ)) → first ≡ [] → told shown ≡ told first ++ lines → calls ≡ shown
    → told calls ≡ lines
drawn_lines first shown calls lines none more is = ap told is ∙ (more ∙ ap (λ (s : List Shown). told s ++ lines) none)

-- all legs were shown from the first state on, with nothing shown before
pub drawn : (script : Script) (legs : List LegLines) (first machine : Plain) (before shown calls : List Shown) → IsFirstState script.desc first → before ≡ []
    → machine ≡ first → told shown ≡ told before ++ all_lines legs → ShowsRuns machine script legs before shown → calls ≡ shown → IsDrawn script legs calls
drawn script legs first machine before shown calls starts none stands more shows is = record {
  lines_are = drawn_lines before shown calls (all_lines legs) none more is;
  marks_are = λ u at histories run told_is.
      let same : u ≡ machine = first_once script.desc u first at starts ∙ sym stands in
      ap marks is
      ∙ (shows histories (subst (λ (x : Plain). IsRun x script.legs histories) same run) (told_is ∙ ap (λ (x : Plain). all_told script x histories) same)
      ∙ ap (λ (s : List Shown). marks s ++ all_marks histories) none);
}

-- ---- what a pattern finds

pub of_none_as : (script : Script) (read : Result (List LegLines) ℕ) (e : TraceError) (line : ℕ) (text : List ℕ) → e ≡ reading.BadLine line
    → IsReadAs (Err e) read → IfOk read (λ l. IsPicture script l text)
of_none_as script read e line text is none = of_none script read line text (subst (λ (x : TraceError). IsReadAs (Err x) read) is none)
