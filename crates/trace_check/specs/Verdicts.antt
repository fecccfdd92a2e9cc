-- What a verdict says of a report.
use Rattle.std.specs.Prelude.{◌≡◌, ℕ, Bool, true, false, List, map}
use Rattle.its_plain.specs.Plain.{Plain}
use Rattle.its_plain.specs.Runs.{Leg, IsRun}
use Rattle.its_plain.specs.declared.call.Entry.{Entry}
use Rattle.event_script.specs.declared.script.Move.{Move}
use Rattle.event_script.specs.declared.script.Move.TheVariants.{Migrate, Precopy}
use Rattle.its_history.specs.Reports.{reported}
use Rattle.its_history.specs.declared.trace.Leg.{Leg as LegLines}
use Rattle.trace_check.specs.Differences.{DiffersFrom}
use Rattle.trace_check.specs.declared.verdict.Difference.{Difference}
use Rattle.trace_check.specs.declared.verdict.Verdict.{Verdict}
use Rattle.trace_check.specs.declared.verdict.Verdict.TheVariants.{Agrees, Differs}

-- whether pages are copied before a migration
abbrev pub copies_for : Move → Bool
copies_for Migrate = false
copies_for Precopy = true

abbrev pub copies_of : List Move → List Bool
copies_of moves = map copies_for moves

-- it is the report of a run, with these migrations
pub record IsReportOfRun (first : Plain) (legs : List Leg) (copies : List Bool) (told : List LegLines) : Type 0 where
  pub histories : List (List Entry)
  pub is_run : IsRun first legs histories
  pub told_is : told ≡ reported first legs copies histories

abbrev pub IfAgrees : Verdict → Type 0 → Type 0
IfAgrees Agrees P = P
IfAgrees (Differs d) P = Unit {0}

abbrev pub IfDiffers : Verdict → (Difference → Type 0) → Type 0
IfDiffers Agrees P = Unit {0}
IfDiffers (Differs d) P = P d

-- the legs are counted from n on
abbrev pub IsVerdictFrom : ℕ → Plain → List Leg → List Bool → List LegLines → Verdict → Type 0
IsVerdictFrom n first legs copies told Agrees = IsReportOfRun first legs copies told
IsVerdictFrom n first legs copies told (Differs d) = DiffersFrom n first legs copies told d
