-- What each draft keeps while lines are read.
use Rattle.std.proofs.Common.{◌≡◌, ℕ, ◌+◌, ◌≤◌, Bool, true, false, ◌&&◌, nat_le, List, [], length}
use Rattle.std.proofs.Common.{Option, Some, None, refl, arith}
use Rattle.std.specs.List.{list_all}
use Rattle.its_types.specs.Ranges.{most_vcpus}
use Rattle.its_types.specs.declared.machine.Limits.{Limits}
use Rattle.its_plain.specs.declared.desc.Its.{Its}
use Rattle.its_plain.specs.declared.desc.Requesters.{Requesters}
use Rattle.event_script.specs.Described.{most_stamp, desc_so_far}
use Rattle.event_script.specs.Description.{at_start, in_description, is_ended, empty}
use Rattle.event_script.specs.Description.{is_shard_count}
use Rattle.event_script.specs.Body.{is_described, may_move}
use Rattle.event_script.specs.Limits.{is_thread, is_phase, is_leg, are_limits, has_frames, is_fill}
use Rattle.event_script.specs.declared.draft.Draft.{Draft}
use Rattle.event_script.specs.declared.draft.IdBits.{IdBits}
use Rattle.event_script.specs.declared.draft.Stage.{Stage}
use Rattle.event_script.specs.declared.draft.Stage.TheVariants as stage
use Rattle.event_script.specs.declared.draft.TheConstants.{MOST_LEGS, MOST_PHASES, MOST_THREADS, MOST_REQUESTERS}
use Rattle.event_script.proofs.Steps.{IsBetween}

-- ---- stages

-- after the description
abbrev pub in_body : Stage → Bool
in_body stage.Start = false
in_body stage.Description = false
in_body stage.Leg = true
in_body stage.Phase = true
in_body stage.Thread = true
in_body stage.Ended = true

-- how many legs are to be closed
abbrev pub open_legs : Stage → ℕ
open_legs stage.Start = 1
open_legs stage.Description = 1
open_legs stage.Leg = 1
open_legs stage.Phase = 1
open_legs stage.Thread = 1
open_legs stage.Ended = 0

-- how many phases are open
abbrev pub open_phases : Stage → ℕ
open_phases stage.Start = 0
open_phases stage.Description = 0
open_phases stage.Leg = 0
open_phases stage.Phase = 1
open_phases stage.Thread = 1
open_phases stage.Ended = 0

-- how many threads are open
abbrev pub open_threads : Stage → ℕ
open_threads stage.Start = 0
open_threads stage.Description = 0
open_threads stage.Leg = 0
open_threads stage.Phase = 0
open_threads stage.Thread = 1
open_threads stage.Ended = 0

pub not_started : (s : Stage) → in_description s ≡ true → in_body s ≡ false
not_started stage.Start e = refl
not_started stage.Description e = refl
not_started stage.Leg e = absurd (cc)
not_started stage.Phase e = absurd (cc)
not_started stage.Thread e = absurd (cc)
not_started stage.Ended e = absurd (cc)

pub start_first : (s : Stage) → at_start s ≡ true → in_body s ≡ false
start_first stage.Start e = refl
start_first stage.Description e = absurd (cc)
start_first stage.Leg e = absurd (cc)
start_first stage.Phase e = absurd (cc)
start_first stage.Thread e = absurd (cc)
start_first stage.Ended e = absurd (cc)

pub described_on : (s : Stage) → in_description s ≡ true → at_start s ≡ false
described_on stage.Start e = absurd (cc)
described_on stage.Description e = refl
described_on stage.Leg e = refl
described_on stage.Phase e = refl
described_on stage.Thread e = refl
described_on stage.Ended e = refl

pub none_open : (s : Stage) → in_body s ≡ false → open_phases s ≡ 0
none_open stage.Start e = refl
none_open stage.Description e = refl
none_open stage.Leg e = absurd (cc)
none_open stage.Phase e = absurd (cc)
none_open stage.Thread e = absurd (cc)
none_open stage.Ended e = absurd (cc)

pub none_running : (s : Stage) → in_body s ≡ false → open_threads s ≡ 0
none_running stage.Start e = refl
none_running stage.Description e = refl
none_running stage.Leg e = absurd (cc)
none_running stage.Phase e = absurd (cc)
none_running stage.Thread e = absurd (cc)
none_running stage.Ended e = absurd (cc)

pub one_to_close : (s : Stage) → in_body s ≡ false → open_legs s ≡ 1
one_to_close stage.Start e = refl
one_to_close stage.Description e = refl
one_to_close stage.Leg e = absurd (cc)
one_to_close stage.Phase e = absurd (cc)
one_to_close stage.Thread e = absurd (cc)
one_to_close stage.Ended e = absurd (cc)

pub not_over : (s : Stage) → in_body s ≡ false → is_ended s ≡ false
not_over stage.Start e = refl
not_over stage.Description e = refl
not_over stage.Leg e = absurd (cc)
not_over stage.Phase e = absurd (cc)
not_over stage.Thread e = absurd (cc)
not_over stage.Ended e = absurd (cc)

pub clash : {A : Type 0} {b : Bool} → b ≡ false → b ≡ true → A
clash e f = absurd (cc)

-- ---- the parts of a draft

abbrev pub given_shards : Option ℕ → Bool
given_shards None = true
given_shards (Some n) = is_shard_count n

-- of one translator, or of two
abbrev pub given_limits : Bool → Option Limits → Bool
given_limits pair None = true
given_limits pair (Some l) = are_limits l && nat_le l.stamp_last (most_stamp pair)

abbrev pub given_ids : Option IdBits → Type 0
given_ids None = Unit {0}
given_ids (Some b) = IsBetween 16 20 b.dev × IsBetween 14 20 b.lpi

-- frames and requesters, with the lines of these
pub record HasDoors (first second : Its) (requesters : List Requesters) (lines : List ℕ) : Type 0 where
  pub first_frames : has_frames first ≡ true
  pub second_frames : has_frames second ≡ true
  pub few : length requesters ≤ MOST_REQUESTERS
  pub numbered : length lines ≡ length requesters

-- what the description has so far
pub record IsFair (d : Draft) : Type 0 where
  pub few : length d.pending ≤ most_vcpus
  pub some : at_start d.stage ≡ false → 1 ≤ length d.pending
  pub shards : given_shards d.shards ≡ true
  pub limits : given_limits d.pair d.limits ≡ true
  pub ids : given_ids d.ids
  pub windows : length d.windows ≤ 16
  pub fills : list_all is_fill d.fills ≡ true
  pub fill_lines : length d.fill_lines ≡ length d.fills
  pub registers : length d.registers ≡ length d.pending
  pub doors : HasDoors d.first d.second d.requesters d.requester_lines

-- no call was read
pub record IsEarly (d : Draft) : Type 0 where
  pub legs : d.legs ≡ []
  pub moves : d.moves ≡ []
  pub phases : d.phases ≡ []
  pub threads : d.threads ≡ []
  pub calls : d.calls ≡ []

-- the calls so far
pub record HasCalls (d : Draft) : Type 0 where
  pub legs : list_all (is_leg (desc_so_far d)) d.legs ≡ true
  pub leg_room : length d.legs + open_legs d.stage ≤ MOST_LEGS
  pub some_legs : is_ended d.stage ≡ true → 1 ≤ length d.legs
  pub moves : length d.moves + 1 ≡ length d.legs + open_legs d.stage
  pub ways : list_all (may_move d.track) d.moves ≡ true
  pub phases : list_all (is_phase (desc_so_far d)) d.phases ≡ true
  pub phase_room : length d.phases + open_phases d.stage ≤ MOST_PHASES
  pub threads : list_all (is_thread (desc_so_far d)) d.threads ≡ true
  pub thread_room : length d.threads + open_threads d.stage ≤ MOST_THREADS
  pub calls : is_thread (desc_so_far d) d.calls ≡ true

pub record IsGood (d : Draft) : Type 0 where
  pub fair : IsFair d
  pub described : in_body d.stage ≡ true → is_described d ≡ true
  pub early : in_body d.stage ≡ false → IsEarly d
  pub body : HasCalls d

pub empty_is_good : IsGood empty
empty_is_good = record {
  fair = record {
    few = omega arith;
    some = λ e. absurd (cc);
    shards = refl;
    limits = refl;
    ids = tt;
    windows = omega arith;
    fills = refl;
    fill_lines = refl;
    registers = refl;
    doors = record { first_frames = refl; second_frames = refl; few = omega arith; numbered = refl };
  };
  described = λ e. absurd (cc);
  early = λ e. record { legs = refl; moves = refl; phases = refl; threads = refl; calls = refl };
  body = record {
    legs = refl;
    leg_room = omega arith;
    some_legs = λ e. absurd (cc);
    moves = refl;
    ways = refl;
    phases = refl;
    phase_room = omega arith;
    threads = refl;
    thread_room = omega arith;
    calls = refl;
  };
}

-- where no call was read there is none out of range
pub early_calls : (d : Draft) → IsEarly d → in_body d.stage ≡ false → HasCalls d
early_calls d h e = record {
  legs = rw h.legs refl;
  leg_room = rw (h.legs, one_to_close d.stage e) (omega arith);
  some_legs = λ over. clash (not_over d.stage e) over;
  moves = rw (h.legs, h.moves, one_to_close d.stage e) refl;
  ways = rw h.moves refl;
  phases = rw h.phases refl;
  phase_room = rw (h.phases, none_open d.stage e) (omega arith);
  threads = rw h.threads refl;
  thread_room = rw (h.threads, none_running d.stage e) (omega arith);
  calls = rw h.calls refl;
}

-- a line of the description
pub described_more : (e : Draft) → IsFair e → IsEarly e → in_body e.stage ≡ false → IsGood e
described_more e fair early off = record {
  fair = fair;
  described = λ on. clash off on;
  early = λ _. early;
  body = early_calls e early off;
}
