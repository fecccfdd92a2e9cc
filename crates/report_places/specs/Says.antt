-- What is said to a script and a report at a place.
use Rattle.std.specs.Prelude.{◌≡◌, ℕ, List, Option, Ok}
use Rattle.event_script.specs.declared.script.Script.{Script}
use Rattle.its_plain.specs.Described.{IsFirstState}
use Rattle.its_plain.specs.Plain.{Plain}
use Rattle.its_plain.specs.Runs.{IsRun}
use Rattle.its_plain.specs.declared.call.Entry.{Entry}
use Rattle.its_answers.specs.Agreed.{IsAgreed}
use Rattle.its_answers.specs.Checked.{CheckCauses, CheckSays, IsCheckInput, read_report}
use Rattle.its_answers.specs.Legs.{all_told}
use Rattle.its_answers.specs.Streams.{WasRead}
use Rattle.its_answers.specs.declared.status.Status.{Status}
use Rattle.its_answers.specs.declared.status.Status.TheVariants as status
use Rattle.its_history.specs.declared.trace.Leg.{Leg as LegLines}
use Rattle.report_places.specs.Lists.{ListsAt, place_text}
use Rattle.report_places.specs.Reached.{state_at}

-- it is the list of a place of these legs, from each first state of the script's machine
abbrev pub IsList : Script → List LegLines → ℕ → ℕ → List ℕ → Type 0
IsList script told leg place text = (first : Plain) → IsFirstState script.desc first → ListsAt first script.legs told leg place text

-- The bytes are a script and the report of a run of it. The text lists what the run's state has after so many calls of a leg, of which the first is 0.
pub record IsListOf (input : List ℕ) (leg place : ℕ) (text : List ℕ) : Type 0 where
  pub script : Script
  pub first : Plain
  pub report : List ℕ
  pub is_input : IsCheckInput input script first report
  pub histories : List (List Entry)
  pub is_run : IsRun first script.legs histories
  pub read : read_report script report ≡ Ok (all_told script first histories)
  pub text_is : text ≡ place_text (state_at first histories leg place)

-- a list where a check agrees, and else what the check says
abbrev pub PlaceSays : List ℕ → ℕ → ℕ → Status → List ℕ → Type 0
PlaceSays input leg place status.Ok text = IsAgreed input × IsListOf input leg place text
PlaceSays input leg place s text = CheckSays input s text

-- ---- of a source

-- what each status says of what a source tells and of its count of faults, and the text that is printed
abbrev pub PlaceCauses : ℕ → ℕ → Option (List ℕ) → Type 0 → Status → List ℕ → Type 0
PlaceCauses leg place told rose status.Ok text =
    (input : List ℕ) × (WasRead told input × (IsAgreed input × IsListOf input leg place text))
PlaceCauses leg place told rose s text = CheckCauses told rose s text
