-- A machine that was left for another after a leg.
use Rattle.std.proofs.Common.{◌≡◌, ℕ, List, Some, Result, Ok, Err, IfOk, sym, ap, subst, ◌∙◌}
use Rattle.its_plain.specs.History.{after}
use Rattle.its_plain.specs.Plain.{Plain}
use Rattle.its_plain.specs.Runs.{Leg}
use Rattle.its_plain.specs.Saved.{moved, IsSavable}
use Rattle.event_script.specs.declared.script.Move.{Move}
use Rattle.its_history.specs.Reports.{moved_end}
use Rattle.its_plain.specs.declared.fault.SaveError.{SaveError}
use Rattle.its_plain.specs.declared.fault.SaveError.TheVariants as errors
use Rattle.its_migrate.specs.Precopying.{Precopies}
use Rattle.its_migrate.specs.Resting.{WentOn, IsCause, resting}
use Rattle.its_migrate.specs.declared.outcome.Precopy.{Precopy as Precopied}
use Rattle.its_migrate.specs.declared.outcome.Precopy.TheVariants as precopy
use Rattle.its_turns.specs.Machines.{setup}
use Rattle.its_turns.specs.declared.machine.Machine.{Machine}
use Rattle.its_turns.specs.declared.machine.Pass.{Pass}
use Rattle.its_top.specs.Answered.{GoesOnWith}
use Rattle.its_answers.specs.Answered.{IsLegWhole, IsLegMoved}
use Rattle.trace_check.specs.Verdicts.{copies_for}
use Rattle.its_top.specs.Moves.{Leaves, IsLeftFor, precopy_error}
use Rattle.its_top.specs.declared.moves.Left.{Left}
use Rattle.its_top.specs.declared.moves.Shared.{Shared}

module _ (m : Machine) (r : Pass) (next : Shared) (went : WentOn m r next.machine next.root) where
  pub goes_on_with : GoesOnWith m next
  goes_on_with = record { fresh = record { of = went.of; view = went.view }; limits = went.limits; desc = went.desc }

  pub is_moved : (way : Move) (leg : Leg) (number : ℕ) (old new : List ℕ)
      (w : IsLegWhole (setup m).limits.place_last (setup m).start leg number (λ u. Some (moved_end (copies_for way) u)) old new)
      → resting m r ≡ after (setup m).start w.history
      → IsLegMoved way (setup m).limits.place_last (setup m).start (setup next.machine).start leg number old new
  is_moved way leg number old new w is =
      record { whole = w; can = subst (λ (u : Plain). IsSavable u) is went.savable; now_is = went.start ∙ ap moved is }

-- ---- a machine that can't be left

module _ (m : Machine) (r : Pass) (way : Move) where
  pub left_for : {E : Type 0} (e : SaveError) (result : Result Left E) → IsCause (resting m r) e → IfOk result (IsLeftFor e)
      → IfOk result (Leaves m r way)
  left_for (errors.Fault f) (Ok l) cause is = subst (λ (x : Left). Leaves m r way x) (sym is) cause
  left_for errors.NoMemory (Ok l) cause is = absurd is
  left_for e (Err x) cause is = tt

  pub left_copied_for : {E : Type 0} (e : Precopied) (s : SaveError) (result : Result Left E) → s ≡ precopy_error e → Precopies m r (Err e)
      → IfOk result (IsLeftFor s) → IfOk result (Leaves m r way)
  left_copied_for (precopy.Fault n q f) s result same why is =
      left_for (errors.Fault f) result why.3 (subst (λ (x : SaveError). IfOk result (IsLeftFor x)) same is)
  left_copied_for (precopy.NoMemory p) s result same why is =
      left_for errors.NoMemory result tt (subst (λ (x : SaveError). IfOk result (IsLeftFor x)) same is)
