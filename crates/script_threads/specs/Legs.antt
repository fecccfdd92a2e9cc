-- What a leg does.
use Rattle.std.specs.Prelude.{◌≡◌, ◌<◌, ◌≤◌, ℕ, zero, suc, ◌+◌, List, [], ◌∷◌, ◌++◌, map, length, Option, Some, None, IsSome, Any}
use Rattle.std.specs.List.{AllByRecursion}
use Rattle.its_plain.specs.History.{IsLegal}
use Rattle.its_types.specs.declared.machine.Placed.{Placed}
use Rattle.its_plain.specs.declared.call.Reply.{Reply}
use Rattle.its_plain.specs.Runs.{Phase, Leg, call_count, IsOfPasses, ArePhases, ArePartOfPhases}
use Rattle.its_history.specs.declared.threads.ThreadList.{ThreadList}
use Rattle.its_history.specs.Histories.{seat_of, passes_lines}
use Rattle.its_history.specs.declared.trace.EntryLine.{EntryLine}
use Rattle.its_history.specs.Merged.{all_lines, thread_lines}
use Rattle.its_steps.specs.Parts.{Setup}
use Rattle.its_steps.specs.World.{View}
use Rattle.script_threads.specs.Phases.{IsCutAtMemory}
use Rattle.script_threads.specs.Rests.{Rests}
use Rattle.script_threads.specs.declared.stop.Stop.{Stop}
use Rattle.script_threads.specs.declared.stop.Stop.TheVariants.{Spent, NoMemory}

-- the lines of a phase's threads, counted from `thread` on, with these replies
abbrev pub phase_lines : ℕ → ℕ → Phase → List (List (Placed Reply)) → List EntryLine
phase_lines phase thread [] lists = []
phase_lines phase thread (calls ∷ threads) [] = []
phase_lines phase thread (calls ∷ threads) (done ∷ lists) = thread_lines phase thread calls done ++ phase_lines phase (suc thread) threads lists

-- how many threads the first k phases have
abbrev pub threads_in : ℕ → Leg → ℕ
threads_in zero phases = 0
threads_in (suc k) [] = 0
threads_in (suc k) (threads ∷ phases) = length threads + threads_in k phases

-- the thread's first call without a reply takes memory
abbrev pub StopsAtMemory : ThreadList → Type 0
StopsAtMemory l = IsCutAtMemory l.calls.now l.replies

-- The root's history is that of the leg, or of its first calls where a phase was stopped. The lists' lines are those of its
-- passes, of which there are `count`, by phase and thread
pub record RanLeg (s : Setup) (phases : Leg) (lists : List ThreadList) (stop : Option Stop) (w : View) : Type 0 where
  pub rests : Rests w
  pub setup : w.setup ≡ s
  pub legal : IsLegal s.start w.seen
  pub part : ArePartOfPhases 1 phases w.seen
  pub whole : stop ≡ None → ArePhases 1 phases w.seen
  pub count : ℕ
  pub made : w.root.made ≡ 1 + count
  pub only : AllByRecursion (IsOfPasses 1 count) w.seen
  pub lines : all_lines lists ≡ passes_lines (seat_of (map length phases)) 1 count 0 w.seen
  pub fits : length w.seen ≤ s.limits.place_last
  pub all : stop ≡ None → length w.seen ≡ call_count phases
  pub short : IsSome stop → length w.seen < call_count phases
  pub spent : stop ≡ Some Spent → length w.seen ≡ s.limits.place_last
  pub memory : stop ≡ Some NoMemory → Any StopsAtMemory lists
