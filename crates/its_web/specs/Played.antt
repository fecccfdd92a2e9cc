-- A leg whose calls one caller made.
use Rattle.std.specs.Prelude.{◌≡◌, ℕ, ◌+◌, ◌<◌, ◌≤◌, Bool, true, false, List, [], length, slice_index, slice_index_or}
use Rattle.its_plain.specs.Plain.{Plain}
use Rattle.its_plain.specs.History.{after}
use Rattle.its_plain.specs.Runs.{Phase, Leg, IsLegRun, IsPartOfLegRun, call_count}
use Rattle.its_plain.specs.declared.call.Entry.{Entry}
use Rattle.its_history.specs.declared.trace.EntryLine.{EntryLine}
use Rattle.trace_check.specs.Differences.{lines}
use Rattle.its_web.specs.declared.turns.Next.{Next}

-- the line of a thread's call; phases and threads are counted from 0, and told from 1
pub record IsLine (place phase : ℕ) (next : Next) (text : List ℕ) (line : EntryLine) : Type 0 where
  pub place_is : line.place ≡ place
  pub phase_is : line.phase ≡ phase + 1
  pub thread_is : line.thread ≡ next.thread + 1
  pub text_is : line.text ≡ text

-- a thread has a call left, where so many of each thread's are made
pub record HasCall (threads : Phase) (made : List ℕ) (i : ℕ) : Type 0 where
  pub below : i < length threads
  pub left : slice_index made i < length (slice_index_or threads i [])

-- The lines are those of a history of the leg from a state to another: of all its calls, or, where places were spent, of as many as there are places
pub record IsPlayed (last : ℕ) (first : Plain) (leg : Leg) (told : List EntryLine) (spent : Bool) (now : Plain) : Type 0 where
  pub history : List Entry
  pub part : IsPartOfLegRun first leg history
  pub lines_are : told ≡ lines leg history
  pub now_is : now ≡ after first history
  pub whole : spent ≡ false → IsLegRun first leg history
  pub fits : spent ≡ false → call_count leg ≤ last
  pub full : spent ≡ true → length history ≡ last
  pub more : spent ≡ true → last < call_count leg
