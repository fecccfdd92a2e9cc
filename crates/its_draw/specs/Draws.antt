-- What `draw` says of a script and a report.
use Rattle.std.specs.Prelude.{◌≡◌, ℕ, List, [], Option, Ok}
use Rattle.event_script.specs.declared.script.Script.{Script}
use Rattle.its_plain.specs.Described.{IsFirstState}
use Rattle.its_plain.specs.Plain.{Plain}
use Rattle.its_plain.specs.Runs.{IsRun}
use Rattle.its_plain.specs.declared.call.Entry.{Entry}
use Rattle.its_answers.specs.Agreed.{IsAgreed}
use Rattle.its_answers.specs.Checked.{CheckCauses, CheckSays, IsCheckInput, read_report}
use Rattle.its_answers.specs.Legs.{all_told}
use Rattle.its_answers.specs.Streams.{WasRead}
use Rattle.its_answers.specs.declared.status.Status.{Status}
use Rattle.its_answers.specs.declared.status.Status.TheVariants as status
use Rattle.its_history.specs.declared.trace.Leg.{Leg as LegLines}
use Rattle.its_draw.specs.Replays.{ShowsRuns, all_lines, all_marks, marks, told}
use Rattle.its_draw.specs.Svg.{svg_text}
use Rattle.its_draw.specs.declared.drawing.Drawing.{Drawing}
use Rattle.its_draw.specs.declared.drawing.Shown.{Shown}

-- what is shown has these lines, and the marks of a run of the script that they tell
pub record IsDrawn (script : Script) (legs : List LegLines) (calls : List Shown) : Type 0 where
  pub lines_are : told calls ≡ all_lines legs
  pub marks_are : (first : Plain) → IsFirstState script.desc first → ShowsRuns first script legs [] calls

-- it is that of a drawing of these legs
pub record IsPicture (script : Script) (legs : List LegLines) (text : List ℕ) : Type 0 where
  pub drawing : Drawing
  pub is_drawn : IsDrawn script legs drawing.calls
  pub text_is : text ≡ svg_text drawing

-- The bytes are a script and the report of a run of it. The text is that of a drawing whose calls are the lines of the report, in
-- their order, each with the mark of its call as the run answered it.
pub record IsPictureOf (input text : List ℕ) : Type 0 where
  pub script : Script
  pub first : Plain
  pub report : List ℕ
  pub is_input : IsCheckInput input script first report
  pub histories : List (List Entry)
  pub is_run : IsRun first script.legs histories
  pub read : read_report script report ≡ Ok (all_told script first histories)
  pub drawing : Drawing
  pub lines_are : told drawing.calls ≡ all_lines (all_told script first histories)
  pub marks_are : marks drawing.calls ≡ all_marks histories
  pub text_is : text ≡ svg_text drawing

-- a picture where a check agrees, and else what the check says
abbrev pub DrawSays : List ℕ → Status → List ℕ → Type 0
DrawSays input status.Ok text = IsAgreed input × IsPictureOf input text
DrawSays input s text = CheckSays input s text

-- ---- of a source

-- what each status says of what a source tells and of its count of faults, and the text that is printed
abbrev pub DrawCauses : Option (List ℕ) → Type 0 → Status → List ℕ → Type 0
DrawCauses told rose status.Ok text = (input : List ℕ) × (WasRead told input × (IsAgreed input × IsPictureOf input text))
DrawCauses told rose s text = CheckCauses told rose s text
