-- A leg whose phases run on a machine that its threads share.
use Rattle.std.specs.Prelude.{◌≡◌, ◌<◌, ◌≤◌, Bool, true, false, List, [], length}
use Rattle.its_plain.specs.History.{IsLegal}
use Rattle.its_plain.specs.Runs.{Leg, ArePhases, ArePartOfPhases, call_count}
use Rattle.its_plain.specs.declared.call.Entry.{Entry}
use Rattle.its_history.specs.Histories.{seat_of, history_lines}
use Rattle.its_history.specs.declared.trace.EntryLine.{EntryLine}
use Rattle.event_script.specs.Limits.{IsWithinLimits}
use Rattle.event_script.specs.declared.script.Script.{Script}
use Rattle.its_steps.specs.Parts.{Setup}
use Rattle.its_steps.specs.World.{first_view}
use Rattle.its_turns.specs.Machines.{setup, view, IsOf}
use Rattle.its_turns.specs.Told.{IsLone}
use Rattle.its_turns.specs.declared.machine.Machine.{Machine}
use Rattle.its_turns.specs.declared.machine.Pass.{Pass}
use Rattle.script_threads.specs.Scripts.{IsOfDesc}
use Rattle.its_history.specs.Reports.{thread_counts}
use Rattle.its_top.specs.declared.moves.Shared.{Shared}

-- a machine with its root, and no call was made
pub record IsFresh (m : Machine) (r : Pass) : Type 0 where
  pub of : IsOf m r
  pub view : view r ≡ first_view (setup m)

-- a script, and a machine of its description that no call was made on
pub record IsReady (script : Script) (first : Shared) : Type 0 where
  pub within : IsWithinLimits script
  pub fresh : IsFresh first.machine first.root
  pub limits : (setup first.machine).limits ≡ script.desc.limits
  pub desc : IsOfDesc script.desc first.machine

-- no pass but the root is out, and that holds nothing
pub record IsAtRest (m : Machine) (r : Pass) : Type 0 where
  pub of : IsOf m r
  pub lone : IsLone (view r)
  pub free : (view r).held ≡ []

-- The lines are those of a history of the leg on this machine: of all its calls, or, where places were spent, of as many as there are places
pub record IsPlayed (s : Setup) (leg : Leg) (lines : List EntryLine) (spent : Bool) (h : List Entry) : Type 0 where
  pub legal : IsLegal s.start h
  pub part : ArePartOfPhases 1 leg h
  pub lines_are : lines ≡ history_lines (seat_of (thread_counts leg)) 0 h
  pub whole : spent ≡ false → ArePhases 1 leg h
  pub fits : spent ≡ false → call_count leg ≤ s.limits.place_last
  pub full : spent ≡ true → length h ≡ s.limits.place_last
  pub more : spent ≡ true → s.limits.place_last < call_count leg
