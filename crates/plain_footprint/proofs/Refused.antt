-- What a refused command leaves.
use Rattle.std.proofs.Common.{◌≡◌, ℕ, Bool, true, false, List, Option, Some, None, Result, Ok, Err, refl, if◌then◌else◌}
use Rattle.its_command.specs.Commands.{decoded, op_of}
use Rattle.its_command.specs.declared.command.Op.{Op}
use Rattle.its_plain.specs.Plain.{Plain}
use Rattle.its_plain.specs.Commands.{ran}
use Rattle.its_plain.specs.Answer.{command_reply, command_left, is_idle, next_bytes, met_reply, met_left, step_reply, step_left, went_on}
use Rattle.its_plain.specs.declared.call.Reason.{Reason}
use Rattle.its_plain.specs.declared.call.StepReply.TheVariants.{Idle, Refused}
use Rattle.plain_footprint.specs.Laws.{RefusedChangesNothing}

module _ (u : Plain) (i : ℕ) (op : Op) (reason : Reason) where
  command_refused : (done : Op) (r : Result Plain Reason) → command_reply done r ≡ Refused op reason → went_on i (command_left u r) ≡ went_on i u
  command_refused done (Ok after) e = absurd cc
  command_refused done (Err why) e = refl

  met_refused : (bytes : Option (List ℕ)) → met_reply u i bytes ≡ Refused op reason → met_left u i bytes ≡ went_on i u
  met_refused None e = absurd cc
  met_refused (Some bytes) e = command_refused (op_of (decoded bytes)) (ran u i (decoded bytes)) e

  idle_or_met : (idle : Bool) (bytes : Option (List ℕ)) → (if idle then Idle else met_reply u i bytes) ≡ Refused op reason
      → (if idle then u else met_left u i bytes) ≡ went_on i u
  idle_or_met true bytes e = absurd cc
  idle_or_met false bytes e = met_refused bytes e

pub refused_leaves : RefusedChangesNothing
unfolding step_reply step_left
refused_leaves u i op reason e = idle_or_met u i op reason (is_idle u i) (next_bytes u i) e
