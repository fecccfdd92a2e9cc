-- A script and a report of which a check says that they agree.
use Rattle.std.specs.Prelude.{ℕ, List, codes}
use Rattle.event_script.specs.declared.script.Script.{Script}
use Rattle.its_plain.specs.Described.{IsFirstState}
use Rattle.its_plain.specs.Machine.{IsDescription}
use Rattle.its_plain.specs.Plain.{Plain}
use Rattle.its_answers.specs.Checked.{CheckSays}
use Rattle.its_answers.specs.declared.status.Status.TheVariants as status

-- a check says so
abbrev pub IsAgreed : List ℕ → Type 0
IsAgreed input = CheckSays input status.Ok (codes "agrees\n")

-- its description is one, and its machine is made
pub record StartsWell (script : Script) : Type 0 where
  pub description : IsDescription script.desc
  pub first : Plain
  pub starts : IsFirstState script.desc first
