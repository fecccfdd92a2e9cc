-- A leg that is told but for its last line, before it is known how it ends.
use Rattle.std.specs.Prelude.{◌≡◌, ℕ, ◌≤◌, List, [], ◌++◌, codes, None}
use Rattle.std.specs.String.{string_bytes}
use Rattle.its_plain.specs.Plain.{Plain}
use Rattle.its_plain.specs.History.{after}
use Rattle.its_plain.specs.Runs.{Leg, IsLegRun, call_count}
use Rattle.its_plain.specs.declared.call.Entry.{Entry}
use Rattle.its_plain.specs.declared.fault.SaveFault.{SaveFault}
use Rattle.its_history.specs.Report.{leg_text}
use Rattle.its_history.specs.Reports.{ended}
use Rattle.its_answers.specs.Refusals.{migration_refusal}
use Rattle.its_answers.specs.declared.ending.Ending.{Ending}
use Rattle.its_answers.specs.declared.status.Status.TheVariants as status

-- all its calls were made, from one state to another
pub record IsLegOpen (last : ℕ) (before now : Plain) (leg : Leg) (number : ℕ) (text : List ℕ) : Type 0 where
  pub history : List Entry
  pub is_run : IsLegRun before leg history
  pub places : call_count leg ≤ last
  pub now_is : now ≡ after before history
  pub text_is : text ≡ leg_text number (ended before leg history None)

-- it was told so far, since the state can't be saved
pub record IsRefusedEnding (number : ℕ) (fault : SaveFault) (text old new : List ℕ) (e : Ending) : Type 0 where
  pub status_is : e.status ≡ status.MigrationRefused
  pub added : new ≡ old ++ text
  pub line_is : string_bytes e.line ≡ migration_refusal number fault

-- it was the last
pub record IsDoneEnding (text old new : List ℕ) (e : Ending) : Type 0 where
  pub status_is : e.status ≡ status.Ok
  pub added : new ≡ old ++ (text ++ codes "done\n")
  pub line_is : string_bytes e.line ≡ []
