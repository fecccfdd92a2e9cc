-- The entries of threads, put together by place.
use Rattle.std.specs.Prelude.{ℕ, List, [], ◌∷◌, None}
use Rattle.std.specs.List.{flat_map}
use Rattle.its_types.specs.declared.machine.Placed.{Placed}
use Rattle.its_plain.specs.declared.call.Call.{Call}
use Rattle.its_plain.specs.declared.call.Reply.{Reply}
use Rattle.its_history.specs.declared.threads.ThreadList.{ThreadList}
use Rattle.its_history.specs.declared.trace.EntryLine.{EntryLine}
use Rattle.its_history.specs.declared.trace.Leg.{Leg}
use Rattle.its_history.specs.Report.{line_of}

-- the lines of a thread's calls that have a reply
abbrev pub thread_lines : ℕ → ℕ → List Call → List (Placed Reply) → List EntryLine
thread_lines phase thread (c ∷ cs) (r ∷ rs) = line_of r.place phase thread c r.reply ∷ thread_lines phase thread cs rs
thread_lines phase thread _ _ = []

abbrev pub list_lines : ThreadList → List EntryLine
list_lines l = thread_lines l.phase l.thread l.calls.now l.replies

abbrev pub all_lines : List ThreadList → List EntryLine
all_lines lists = flat_map list_lines lists

-- the entries of the first leg
abbrev pub first_entries : List Leg → List EntryLine
first_entries [] = []
first_entries (leg ∷ legs) = leg.entries

-- a leg of entries alone
abbrev pub open_leg : List EntryLine → Leg
open_leg lines = record { entries = lines; pending = []; end = None }
