-- What a step of one translator leaves of the others, and of the second memory, and how many redistributors.
use Rattle.std.proofs.Common.{◌≡◌, ℕ, zero, suc, Bool, true, false, List, [], ◌∷◌, Option, Some, None, Result, Ok, Err, IfOk, refl, sym, subst, ◌∙◌}
use Rattle.std.specs.Prelude.{slice_get, length, if◌then◌else◌, ◌==◌}
use Rattle.std.proofs.lemmas.Bool.{cond_both}
use Rattle.std.proofs.lemmas.List.{length-set, length-map}
use Rattle.std.proofs.lemmas.Option.{same_Some}
use Rattle.dirty_log.specs.declared.tracked.Tracked.{Tracked}
use Rattle.its_command.specs.Commands.{decoded}
use Rattle.its_types.specs.Lpis.{with_lpis}
use Rattle.its_command.specs.declared.command.Command.{Command}
use Rattle.its_types.specs.declared.machine.Part.{Part}
use Rattle.its_types.specs.declared.machine.Part.TheVariants.{Maps as MapsOf}
use Rattle.its_plain.specs.Plain.{Plain, maps_of, pending_of, redistributor, with_pending}
use Rattle.its_plain.specs.Answer.{step_left, met_left, command_left, is_idle, next_bytes}
use Rattle.its_plain.specs.Commands.{ran, all_moved, all_reread_at}
use Rattle.its_plain.specs.Parts.{IsIn, footprint, needed_by}
use Rattle.its_plain.specs.declared.call.Call.TheVariants as call
use Rattle.its_plain.specs.declared.call.Reason.{Reason}
use Rattle.plain_footprint.proofs.Kept.{commands_keep}
use Rattle.cmd_exec.specs.Needs.{reads_confs}
use Rattle.cmd_exec.proofs.Sets.{IsOfKind, AreOfKind, needed_kind, needed_is}

-- ---- parts

-- configurations and what is pending are no maps
no_maps : (b : Bool) (j : ℕ) → IsOfKind b (MapsOf j) → ⊥
no_maps true j h = h
no_maps false j h = h

-- all are configurations, or all are what is pending
abbrev AreOfRedists : List Part → Type 0
AreOfRedists ps = (b : Bool) × AreOfKind b ps

no_maps_of : (b : Bool) (ps : List Part) (j k : ℕ) → AreOfKind b ps → slice_get ps k ≡ Some (MapsOf j) → ⊥
no_maps_of b [] j k h e = absurd cc
no_maps_of b (p ∷ ps) j zero h e = no_maps b j (subst (IsOfKind b) (same_Some p (MapsOf j) e) h.0)
no_maps_of b (p ∷ ps) j (suc k) h e = no_maps_of b ps j k h.1 e

by_redists : (u : Plain) (i : ℕ) (o : Option (List ℕ)) → AreOfRedists (needed_by u i o)
by_redists u i None = (true, tt)
by_redists u i (Some bytes) =
    let c = decoded bytes in
    (reads_confs c, subst (AreOfKind (reads_confs c)) (sym (needed_is u i c)) (needed_kind u.layout.shape (maps_of u i) c))

next_redists : (u : Plain) (i : ℕ) → AreOfRedists (if is_idle u i then [] else needed_by u i (next_bytes u i))
next_redists u i = cond_both (is_idle u i) [] (needed_by u i (next_bytes u i)) AreOfRedists (λ _. (true, tt)) (λ _. by_redists u i (next_bytes u i))

pub not_in_step : (u : Plain) (i j : ℕ) → (j ≡ i → ⊥) → ¬ IsIn (MapsOf j) (footprint u (call.Step i))
unfolding footprint
not_in_step u i j apart (zero, e) = apart (let one : Some (MapsOf i) ≡ Some (MapsOf j) = e in cc)
not_in_step u i j apart (suc zero, e) = absurd cc
not_in_step u i j apart (suc (suc k), e) =
    let h = next_redists u i in no_maps_of h.0 (if is_idle u i then [] else needed_by u i (next_bytes u i)) j k h.1 e

-- ---- the second memory

abbrev Tracks : Option Tracked → Plain → Type 0
Tracks t u = u.track ≡ t

all_moved_tracks : (u : Plain) (from to : ℕ) (t : Option Tracked) → Tracks t u → Tracks t (all_moved from to u)
unfolding all_moved
all_moved_tracks u from to t h = cond_both _ u _ (Tracks t) (λ _. h) (λ _. h)

ran_tracks : (u : Plain) (i : ℕ) (c : Command) → IfOk (ran u i c) (Tracks u.track)
ran_tracks u i c =
    commands_keep (Tracks u.track) (record {
      lpis = record {
        set = λ v intid vcpu on h. h;
        cleared = λ v intid vcpu h. h;
        all_moved = λ v from to on h. all_moved_tracks v from to u.track h;
        reread = λ v intids h. h;
      };
      maps = λ v j m h. h;
    }) u i c refl

left_tracks : (u : Plain) (r : Result Plain Reason) → IfOk r (Tracks u.track) → (command_left u r).track ≡ u.track
left_tracks u (Ok w) h = h
left_tracks u (Err e) h = refl

met_tracks : (u : Plain) (i : ℕ) (o : Option (List ℕ)) → (met_left u i o).track ≡ u.track
met_tracks u i None = refl
met_tracks u i (Some bytes) = left_tracks u (ran u i (decoded bytes)) (ran_tracks u i (decoded bytes))

pub step_track : (u : Plain) (i : ℕ) → (step_left u i).track ≡ u.track
unfolding step_left
step_track u i = cond_both (is_idle u i) u (met_left u i (next_bytes u i)) (λ w. w.track ≡ u.track) (λ _. refl) (λ _. met_tracks u i (next_bytes u i))

-- ---- redistributors

-- there are so many
abbrev Long : ℕ → Plain → Type 0
Long n u = length u.redistributors ≡ n

all_moved_long : (u : Plain) (from to n : ℕ) → Long n u → Long n (all_moved from to u)
unfolding all_moved
all_moved_long u from to n h =
    let x = with_pending u from [] in
    let both = with_lpis (pending_of u from) (pending_of u to) in
    cond_both (from == to) u (with_pending x to both) (Long n) (λ _. h)
    (λ _. length-set x.redistributors to (record (redistributor x to) { pending = both })
    ∙ length-set u.redistributors from (record (redistributor u from) { pending = [] }) ∙ h)

ran_long : (u : Plain) (i : ℕ) (c : Command) → IfOk (ran u i c) (Long (length u.redistributors))
ran_long u i c =
    let n = length u.redistributors in
    commands_keep (Long n) (record {
      lpis = record {
        set = λ v intid vcpu on h. length-set v.redistributors vcpu _ ∙ h;
        cleared = λ v intid vcpu h. length-set v.redistributors vcpu _ ∙ h;
        all_moved = λ v from to on h. all_moved_long v from to n h;
        reread = λ v intids h. length-map v.redistributors (all_reread_at v.memory intids) ∙ h;
      };
      maps = λ v j m h. h;
    }) u i c refl

left_long : (u : Plain) (r : Result Plain Reason) → IfOk r (Long (length u.redistributors)) → Long (length u.redistributors) (command_left u r)
left_long u (Ok w) h = h
left_long u (Err e) h = refl

met_long : (u : Plain) (i : ℕ) (o : Option (List ℕ)) → Long (length u.redistributors) (met_left u i o)
met_long u i None = refl
met_long u i (Some bytes) = left_long u (ran u i (decoded bytes)) (ran_long u i (decoded bytes))

pub step_long : (u : Plain) (i : ℕ) → length (step_left u i).redistributors ≡ length u.redistributors
unfolding step_left
step_long u i =
    cond_both (is_idle u i) u (met_left u i (next_bytes u i)) (Long (length u.redistributors)) (λ _. refl) (λ _. met_long u i (next_bytes u i))
