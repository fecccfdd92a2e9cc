-- The lines of a history's entries, and those of each of its passes.
use Rattle.std.specs.Prelude.{◌≡◌, ℕ, zero, suc, ◌+◌, ◌-◌, ◌==◌, nat_le, if◌then◌else◌, List, [], ◌∷◌, ◌++◌, map, Option}
use Rattle.std.specs.List.{AllByRecursion}
use Rattle.std.specs.List.Sorted.{IsPermutation, IsNonDecreasingBy}
use Rattle.its_types.specs.declared.machine.Placed.{Placed}
use Rattle.its_plain.specs.declared.call.Call.{Call}
use Rattle.its_plain.specs.declared.call.Entry.{Entry}
use Rattle.its_plain.specs.declared.call.Reply.{Reply}
use Rattle.its_plain.specs.History.{calls_by}
use Rattle.its_plain.specs.Runs.{IsOfPasses}
use Rattle.its_history.specs.declared.trace.End.{End}
use Rattle.its_history.specs.declared.trace.EntryLine.{EntryLine}
use Rattle.its_history.specs.declared.trace.Leg.{Leg}
use Rattle.its_history.specs.Report.{line_of, pending_text}
use Rattle.its_history.specs.Merged.{thread_lines}

-- ---- which thread a pass is: the passes of a leg are counted from 1, those of a phase after those of earlier phases

-- phase and thread of a pass
abbrev pub Seat : Type 0
Seat = ℕ × ℕ

-- from this phase on, of which each has so many threads
abbrev pub seat_from : ℕ → List ℕ → ℕ → Seat
seat_from phase [] pass = (phase, pass)
seat_from phase (count ∷ counts) pass = if nat_le pass count then (phase, pass) else seat_from (phase + 1) counts (pass - count)

abbrev pub seat_of : List ℕ → ℕ → Seat
seat_of counts pass = seat_from 1 counts pass

-- ---- lines, where the first entry has the place n

abbrev pub entry_line : (ℕ → Seat) → ℕ → Entry → EntryLine
entry_line seat n e = line_of n (seat e.pass).0 (seat e.pass).1 e.call e.reply

abbrev pub history_lines : (ℕ → Seat) → ℕ → List Entry → List EntryLine
history_lines seat n [] = []
history_lines seat n (e ∷ h) = entry_line seat n e ∷ history_lines seat (suc n) h

-- those of one pass
abbrev pub pass_lines : (ℕ → Seat) → ℕ → ℕ → List Entry → List EntryLine
pass_lines seat pass n [] = []
pass_lines seat pass n (e ∷ h) = if e.pass == pass then entry_line seat n e ∷ pass_lines seat pass (suc n) h else pass_lines seat pass (suc n) h

-- those of the passes m, m + 1, .., of which there are count
abbrev pub passes_lines : (ℕ → Seat) → ℕ → ℕ → ℕ → List Entry → List EntryLine
passes_lines seat m zero n h = []
passes_lines seat m (suc count) n h = pass_lines seat m n h ++ passes_lines seat (suc m) count n h

-- the replies of one pass with their places
abbrev pub replies_by : ℕ → ℕ → List Entry → List (Placed Reply)
replies_by pass n [] = []
replies_by pass n (e ∷ h) = if e.pass == pass then record { place = n; reply = e.reply } ∷ replies_by pass (suc n) h else replies_by pass (suc n) h

-- ---- a leg

-- its phases' counts of threads, its history, what is pending at each virtual processor, and how it ended
abbrev pub leg_of : List ℕ → List Entry → List (List ℕ) → Option End → Leg
leg_of counts h pending end = record { entries = history_lines (seat_of counts) 0 h; pending = map pending_text pending; end = end }

-- ---- laws

-- the lines of a thread whose calls and replies are those of a pass
abbrev pub ThreadGives : Type 0
ThreadGives = (seat : ℕ → Seat) (pass n : ℕ) (h : List Entry) (later : List Call)
    → thread_lines (seat pass).0 (seat pass).1 (calls_by pass h ++ later) (replies_by pass n h) ≡ pass_lines seat pass n h

-- however they are put together by place, the lines of all passes are the history's
abbrev pub MergeGives : Type 0
MergeGives = (seat : ℕ → Seat) (m count n : ℕ) (h : List Entry) (lines : List EntryLine) → AllByRecursion (IsOfPasses m count) h
    → IsPermutation (passes_lines seat m count n h) lines → IsNonDecreasingBy (λ (l : EntryLine). l.place) lines → lines ≡ history_lines seat n h
