-- What a status says, by what was read.
use Rattle.std.proofs.Common.{ℕ, List, [], ◌∷◌, ◌++◌, codes, Option, Ok, ap, inl, inr}
use Rattle.its_plain.specs.Plain.{Plain}
use Rattle.its_plain.specs.Runs.{IsPartialRun}
use Rattle.event_script.specs.declared.script.Script.{Script}
use Rattle.its_answers.specs.Checked.{CheckCauses, CheckSays}
use Rattle.its_answers.specs.Its.{RunCauses, IsScript, OfScript, IsReport, IsMigrationRefusal, IsSpentReport, IsCutShort}
use Rattle.its_answers.specs.Streams.{WasRead}
use Rattle.its_answers.specs.Answered.{InputCauses, RunEnds, IsSoFar, StopsShort}
use Rattle.its_answers.specs.declared.status.Status.{Status}
use Rattle.its_answers.specs.declared.status.Status.TheVariants as status
use Rattle.its_answers.proofs.Enabling.{partial_lpis}
use Rattle.its_answers.proofs.Lines.{scripts_off}
use Rattle.its_answers.proofs.Migrations.{partial_run, part_of_none}

-- ---- by what was read

-- what was read and what it says
pub read_causes : (told : Option (List ℕ)) (rose : Type 0) (input : List ℕ) (s : Status) (text : List ℕ) → WasRead told input → InputCauses input s text
    → RunCauses told rose s text
read_causes told rose input status.Ok text was h = (input, (was, h))
read_causes told rose input status.ScriptRefused text was h = (input, (was, h))
read_causes told rose input status.WordsRefused text was h = absurd h
read_causes told rose input status.ReadFault text was h = absurd h
read_causes told rose input status.WriteFault text was h = absurd h
read_causes told rose input status.Memory text was h = absurd h
read_causes told rose input status.MachineRefused text was h = (input, (was, h))
read_causes told rose input status.MigrationRefused text was h = (input, (was, h))
read_causes told rose input status.Spent text was h = (input, (was, h))
read_causes told rose input status.TooLong text was h = absurd h
read_causes told rose input status.TraceDiffers text was h = absurd h
read_causes told rose input status.BadTrace text was h = absurd h
read_causes told rose input status.Undecided text was h = absurd h

of_script : (Says : Script → Plain → List ℕ → Type 0) (input : List ℕ) (script : Script) (first : Plain) (text : List ℕ) → IsScript input script first
    → Says script first text → OfScript Says input text
of_script Says input script first text is h = record { script = script; first = first; is_script = is; off = scripts_off input script is.read; says = h }

-- a run of a script that was read
pub run_causes : (input : List ℕ) (script : Script) (first : Plain) (s : Status) (text : List ℕ) → IsScript input script first → RunEnds script first s text
    → InputCauses input s text
run_causes input script first status.Ok text is h = of_script IsReport input script first text is h
run_causes input script first status.ScriptRefused text is h = absurd h
run_causes input script first status.WordsRefused text is h = absurd h
run_causes input script first status.ReadFault text is h = absurd h
run_causes input script first status.WriteFault text is h = absurd h
run_causes input script first status.Memory text is h = absurd h
run_causes input script first status.MachineRefused text is h = absurd h
run_causes input script first status.MigrationRefused text is h = of_script IsMigrationRefusal input script first text is h
run_causes input script first status.Spent text is h = of_script IsSpentReport input script first text is h
run_causes input script first status.TooLong text is h = absurd h
run_causes input script first status.TraceDiffers text is h = absurd h
run_causes input script first status.BadTrace text is h = absurd h
run_causes input script first status.Undecided text is h = absurd h

-- memory ran out in it
pub so_far : (input : List ℕ) (script : Script) (first : Plain) (report : List ℕ) → IsScript input script first → IsSoFar script first report
    → StopsShort input report
so_far input script first report is h = inr (of_script IsSoFar input script first report is h)

cut_short : (script : Script) (first : Plain) (report : List ℕ) → IsSoFar script first report → IsCutShort script first (report ++ codes "refused memory\n")
cut_short script first report h =
    let partial : IsPartialRun first script.legs (h.histories ++ [] ∷ []) =
    partial_run script.desc.limits.place_last first script.legs h.histories h.now h.leg h.later [] h.earlier (part_of_none h.now h.leg) in
    record {
      histories = h.histories;
      now = h.now;
      leg = h.leg;
      later = h.later;
      earlier = h.earlier;
      partial = partial;
      lpis = partial_lpis script first (h.histories ++ [] ∷ []) partial;
      same = ap (λ (t : List ℕ). t ++ codes "refused memory\n") h.same;
    }

pub short_causes : (told : Option (List ℕ)) (rose : Type 0) (input report : List ℕ) → WasRead told input → StopsShort input report
    → RunCauses told rose status.Memory (report ++ codes "refused memory\n")
short_causes told rose input report was h =
    elim h [
      | inl none ↦ inl (ap (λ (t : List ℕ). t ++ codes "refused memory\n") none)
      | inr some ↦ inr (
        input,
        (
          was,
          of_script IsCutShort input some.script some.first (report ++ codes "refused memory\n") some.is_script
              (cut_short some.script some.first report some.says),
        ),
      )
    ]

-- what was read and what a check says of it
pub said_causes : (told : Option (List ℕ)) (rose : Type 0) (input : List ℕ) (s : Status) (text : List ℕ) → WasRead told input → CheckSays input s text
    → CheckCauses told rose s text
said_causes told rose input status.Ok text was h = (input, (was, h))
said_causes told rose input status.ScriptRefused text was h = (input, (was, h))
said_causes told rose input status.WordsRefused text was h = absurd h
said_causes told rose input status.ReadFault text was h = absurd h
said_causes told rose input status.WriteFault text was h = absurd h
said_causes told rose input status.Memory text was h = absurd h
said_causes told rose input status.MachineRefused text was h = (input, (was, h))
said_causes told rose input status.MigrationRefused text was h = absurd h
said_causes told rose input status.Spent text was h = absurd h
said_causes told rose input status.TooLong text was h = absurd h
said_causes told rose input status.TraceDiffers text was h = (input, (was, h))
said_causes told rose input status.BadTrace text was h = (input, (was, h))
said_causes told rose input status.Undecided text was h = absurd h
