-- What was said of a script's run, said of the bytes.
use Rattle.std.proofs.Common.{◌≡◌, ℕ, List, Ok, sym, subst, inl, inr}
use Rattle.its_plain.specs.Described.{IsFirstState}
use Rattle.its_plain.specs.Plain.{Plain}
use Rattle.event_script.specs.Script.{script_of}
use Rattle.event_script.specs.declared.script.Script.{Script}
use Rattle.its_answers.specs.Its.{OfScript, IsReport, IsMigrationRefusal, IsSpentReport}
use Rattle.its_answers.specs.Answered.{RunEnds, FromFirst, ScriptCauses, ScriptStopsShort, InputCauses, StopsShort, IsSoFar}
use Rattle.its_answers.specs.declared.status.Status.{Status}
use Rattle.its_answers.proofs.Lines.{scripts_off}
use Rattle.its_answers.specs.declared.status.Status.TheVariants as status

-- ---- of a script

module _ (script : Script) (first made : Plain) (starts : IsFirstState script.desc made) (same : first ≡ made) where
  from_first : (Says : Script → Plain → List ℕ → Type 0) (text : List ℕ) → Says script first text → FromFirst Says script text
  from_first Says text says = record { first = first; starts = subst (IsFirstState script.desc) (sym same) starts; says = says }

  pub run_said : (s : Status) (text : List ℕ) → RunEnds script first s text → ScriptCauses script s text
  run_said status.Ok text is = from_first IsReport text is
  run_said status.ScriptRefused text is = absurd is
  run_said status.WordsRefused text is = absurd is
  run_said status.ReadFault text is = absurd is
  run_said status.WriteFault text is = absurd is
  run_said status.Memory text is = absurd is
  run_said status.MachineRefused text is = absurd is
  run_said status.MigrationRefused text is = from_first IsMigrationRefusal text is
  run_said status.Spent text is = from_first IsSpentReport text is
  run_said status.TooLong text is = absurd is
  run_said status.TraceDiffers text is = absurd is
  run_said status.BadTrace text is = absurd is
  run_said status.Undecided text is = absurd is

  pub so_far_said : (report : List ℕ) → IsSoFar script first report → ScriptStopsShort script report
  so_far_said report is = inr (from_first IsSoFar report is)

-- ---- of the bytes

module _ (input : List ℕ) (script : Script) (read : script_of input ≡ Ok script) where
  of_script : (Says : Script → Plain → List ℕ → Type 0) (text : List ℕ) → FromFirst Says script text → OfScript Says input text
  of_script Says text is = record {
    script = script;
    first = is.first;
    is_script = record { read = read; starts = is.starts };
    off = scripts_off input script read;
    says = is.says;
  }

  pub script_said : (s : Status) (text : List ℕ) → ScriptCauses script s text → InputCauses input s text
  script_said status.Ok text is = of_script IsReport text is
  script_said status.ScriptRefused text is = absurd is
  script_said status.WordsRefused text is = absurd is
  script_said status.ReadFault text is = absurd is
  script_said status.WriteFault text is = absurd is
  script_said status.Memory text is = absurd is
  script_said status.MachineRefused text is = record { script = script; fault = is.fault; read = read; refused = is.refused; same = is.same }
  script_said status.MigrationRefused text is = of_script IsMigrationRefusal text is
  script_said status.Spent text is = of_script IsSpentReport text is
  script_said status.TooLong text is = absurd is
  script_said status.TraceDiffers text is = absurd is
  script_said status.BadTrace text is = absurd is
  script_said status.Undecided text is = absurd is

  pub short_said : (report : List ℕ) → ScriptStopsShort script report → StopsShort input report
  short_said report is = elim is [ inl none ↦ inl none | inr some ↦ inr (of_script IsSoFar report some) ]
