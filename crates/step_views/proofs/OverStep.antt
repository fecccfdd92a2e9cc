-- A step over another memory that has the bytes which it reads.
use Rattle.std.proofs.Common.{◌≡◌, ℕ, true, false, cond, List, [], ◌∷◌, map, Option, Some, None, Result, Ok, Err, refl, sym, ap, ◌∙◌}
use Rattle.std.specs.List.{AllByRecursion}
use Rattle.dirty_log.specs.declared.tracked.Tracked.{Tracked}
use Rattle.guest_windows.specs.Windows.{Window, extent}
use Rattle.gits_regs.specs.Registers.{queue_place}
use Rattle.its_command.specs.Commands.{decoded, op_of}
use Rattle.its_command.specs.declared.command.Command.{Command}
use Rattle.its_command.specs.declared.command.Op.{Op}
use Rattle.its_plain.specs.Answer.{step_reply, step_left, is_idle, next_bytes, met_reply, met_left, command_reply, command_left, went_on}
use Rattle.its_plain.specs.Commands.{ran}
use Rattle.its_plain.specs.Plain.{Plain, regs_of}
use Rattle.its_plain.specs.Sound.{IsSound}
use Rattle.its_plain.specs.declared.call.Reason.{Reason}
use Rattle.its_plain.specs.declared.call.StepReply.TheVariants.{Idle}
use Rattle.owned_machine.specs.Lent.{on}
use Rattle.step_views.specs.Laws.{HasSameBytes, over, StepReads, StepReadsBy, LentStepsAgree}
use Rattle.step_views.specs.Reads.{reads, reads_by, met_reads}
use Rattle.step_views.proofs.OverRan.{lifted, ran_over}
use Rattle.step_views.proofs.Listing.{told_before, told_all}
use Rattle.step_views.specs.Pairs.{all_told}

module _ (memory : List Window) (track : Option Tracked) (u : Plain) (i : ℕ) where
  reply_lifted : (op : Op) (r : Result Plain Reason) → command_reply op (lifted memory track r) ≡ command_reply op r
  reply_lifted op (Ok w) = refl
  reply_lifted op (Err e) = refl

  left_lifted : (r : Result Plain Reason)
      → went_on i (command_left (over memory track u) (lifted memory track r)) ≡ over memory track (went_on i (command_left u r))
  left_lifted (Ok w) = refl
  left_lifted (Err e) = refl

  module _ (sound : IsSound u) (windows : map extent memory ≡ map extent u.memory) where
    met_same : (o : Option (List ℕ)) → AllByRecursion (HasSameBytes u.memory memory) (met_reads u i o)
        → (met_reply (over memory track u) i o ≡ met_reply u i o) × (met_left (over memory track u) i o ≡ over memory track (met_left u i o))
    met_same None h = (refl, refl)
    met_same (Some bytes) h =
        let c : Command = decoded bytes in
        let same : ran (over memory track u) i c ≡ lifted memory track (ran u i c) = ran_over memory track u i sound windows c h in (
          ap (command_reply (op_of c)) same ∙ reply_lifted (op_of c) (ran u i c),
          ap (λ (r : Result Plain Reason). went_on i (command_left (over memory track u) r)) same ∙ left_lifted (ran u i c),
        )

    read_same : AllByRecursion (HasSameBytes u.memory memory) ((queue_place (regs_of u i), 32) ∷ met_reads u i (next_bytes u i))
        → (met_reply (over memory track u) i (next_bytes (over memory track u) i) ≡ met_reply u i (next_bytes u i))
        × (met_left (over memory track u) i (next_bytes (over memory track u) i) ≡ over memory track (met_left u i (next_bytes u i)))
    read_same h =
        let rest = met_same (next_bytes u i) h.1 in
        (ap (met_reply (over memory track u) i) h.0 ∙ rest.0, ap (met_left (over memory track u) i) h.0 ∙ rest.1)

    step_same : AllByRecursion (HasSameBytes u.memory memory) (reads u i)
        → (step_reply (over memory track u) i ≡ step_reply u i) × (step_left (over memory track u) i ≡ over memory track (step_left u i))
    unfolding step_reply step_left reads
    step_same h =
        let w : Plain = over memory track u in
        elim (is_idle u i) as (λ b. AllByRecursion (HasSameBytes u.memory memory)
        (cond b [] (all_told ((queue_place (regs_of u i), 32) ∷ []) (met_reads u i (next_bytes u i))))
        → (cond b Idle (met_reply w i (next_bytes w i)) ≡ cond b Idle (met_reply u i (next_bytes u i)))
        × (cond b w (met_left w i (next_bytes w i)) ≡ over memory track (cond b u (met_left u i (next_bytes u i))))) [
          | true ↦ λ none. (refl, refl)
          | false ↦ λ same.
              let first : List (ℕ × ℕ) = (queue_place (regs_of u i), 32) ∷ [] in
              let more = met_reads u i (next_bytes u i) in
              read_same ((told_before (HasSameBytes u.memory memory) first more same).0, told_all (HasSameBytes u.memory memory) first more same)
        ] h

pub reads_decide : StepReads
reads_decide u i memory track sound h = step_same memory track u i sound h.windows h.bytes

-- ---- on lent memory

all_same : (memory : List Window) (stretches : List (ℕ × ℕ)) → AllByRecursion (HasSameBytes memory memory) stretches
all_same memory [] = tt
all_same memory (s ∷ stretches) = (refl, all_same memory stretches)

-- a step leaves guest memory and the second one
left_same : (u : Plain) (i : ℕ) → IsSound u → step_left u i ≡ over u.memory u.track (step_left u i)
left_same u i sound = (step_same u.memory u.track u i sound refl (all_same u.memory (reads u i))).1

pub lent_agree : LentStepsAgree
lent_agree u i memory sound h =
    let same = step_same memory u.track u i sound h.windows h.bytes in
    (same.0, ap (on u.memory) same.1 ∙ sym (left_same u i sound))

-- ---- by the command's bytes

pub by_command : StepReadsBy
unfolding reads reads_by
by_command u i bytes is =
    ap (λ (o : Option (List ℕ)). cond (is_idle u i) [] (all_told ((queue_place (regs_of u i), 32) ∷ []) (met_reads u i o))) is
