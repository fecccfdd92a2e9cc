-- A step changes no second memory, and none of its pages.
use Rattle.std.proofs.Common.{◌≡◌, ℕ, true, false, eqb, cond, Option, Some, None, Result, Ok, Err, IfOk, List, [], refl}
use Rattle.dirty_log.specs.declared.tracked.Tracked.{Tracked}
use Rattle.its_command.specs.Commands.{decoded}
use Rattle.its_plain.specs.Answer.{left, step_left, met_left, command_left, is_idle, next_bytes}
use Rattle.its_plain.specs.Commands.{all_moved, ran}
use Rattle.its_plain.specs.Plain.{Plain, with_pending, pending_of}
use Rattle.its_types.specs.Lpis.{with_lpis}
use Rattle.its_plain.specs.declared.call.Call.TheVariants as call
use Rattle.its_plain.specs.declared.call.Reason.{Reason}
use Rattle.its_plain.specs.declared.call.Reply.{Reply}
use Rattle.plain_footprint.specs.Commands.{IsKept}
use Rattle.plain_footprint.proofs.Kept.{commands_keep}

abbrev HasTrack : Option Tracked → Plain → Type 0
HasTrack t u = u.track ≡ t

moved_track : (t : Option Tracked) (u : Plain) (from to : ℕ) → HasTrack t u → HasTrack t (all_moved from to u)
unfolding all_moved
moved_track t u from to h =
    elim (eqb from to) as (λ b. HasTrack t (cond b u (with_pending (with_pending u from []) to (with_lpis (pending_of u from) (pending_of u to))))) [
      | true ↦ h
      | false ↦ h
    ]

keeps_track : (t : Option Tracked) → IsKept (HasTrack t)
keeps_track t = record {
  lpis = record {
    set = λ u intid vcpu on h. h;
    cleared = λ u intid vcpu h. h;
    all_moved = λ u from to on h. moved_track t u from to h;
    reread = λ u intids h. h;
  };
  maps = λ u i m h. h;
}

command_track : (u : Plain) (r : Result Plain Reason) → IfOk r (HasTrack u.track) → (command_left u r).track ≡ u.track
command_track u (Ok w) h = h
command_track u (Err e) h = refl

met_track : (u : Plain) (i : ℕ) (o : Option (List ℕ)) → (met_left u i o).track ≡ u.track
met_track u i None = refl
met_track u i (Some bytes) = command_track u (ran u i (decoded bytes)) (commands_keep (HasTrack u.track) (keeps_track u.track) u i (decoded bytes) refl)

step_track : (u : Plain) (i : ℕ) → (step_left u i).track ≡ u.track
unfolding step_left
step_track u i = elim (is_idle u i) as (λ b. (cond b u (met_left u i (next_bytes u i))).track ≡ u.track) [
  | true ↦ refl
  | false ↦ met_track u i (next_bytes u i)
]

pub track_after : (u : Plain) (i : ℕ) (r : Reply) → (left u (call.Step i) r).track ≡ u.track
unfolding left
track_after u i r = step_track u i
