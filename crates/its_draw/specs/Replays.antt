-- What the calls of a report show, made again in the order of its lines.
use Rattle.std.specs.Prelude.{◌≡◌, ℕ, List, ◌++◌, map, Some}
use Rattle.std.specs.List.{flat_map}
use Rattle.its_plain.specs.Plain.{Plain}
use Rattle.its_plain.specs.Answer.{answer}
use Rattle.its_plain.specs.History.{after}
use Rattle.its_plain.specs.Runs.{Leg, IsLegRun, IsRun}
use Rattle.its_plain.specs.declared.call.Call.{Call}
use Rattle.its_plain.specs.declared.call.Entry.{Entry}
use Rattle.event_script.specs.declared.script.Script.{Script}
use Rattle.its_history.specs.Report.{told_text}
use Rattle.its_history.specs.Reports.{reported}
use Rattle.its_history.specs.declared.trace.EntryLine.{EntryLine}
use Rattle.its_history.specs.declared.trace.Leg.{Leg as LegLines}
use Rattle.trace_check.specs.Cursors.{Progress, next_call, taken}
use Rattle.trace_check.specs.Differences.{lines as run_lines}
use Rattle.trace_check.specs.Verdicts.{copies_of}
use Rattle.its_draw.specs.Marks.{mark_of}
use Rattle.its_draw.specs.declared.drawing.Shown.{Shown}
use Rattle.its_draw.specs.declared.mark.Mark.{Mark}

-- ---- lines

abbrev pub told_of : EntryLine → ℕ × List ℕ
told_of l = (l.thread, told_text l.phase l.thread l.text)

abbrev pub shown_told : Shown → ℕ × List ℕ
shown_told s = (s.thread, s.text)

-- the lines that are shown, and those that are to be
abbrev pub told : List Shown → List (ℕ × List ℕ)
told shown = map shown_told shown

abbrev pub lines : List EntryLine → List (ℕ × List ℕ)
lines entries = map told_of entries

abbrev pub leg_lines : LegLines → List (ℕ × List ℕ)
leg_lines leg = lines leg.entries

abbrev pub all_lines : List LegLines → List (ℕ × List ℕ)
all_lines legs = flat_map leg_lines legs

-- ---- marks

abbrev pub shown_mark : Shown → Mark
shown_mark s = s.mark

-- those that are shown
abbrev pub marks : List Shown → List Mark
marks shown = map shown_mark shown

abbrev pub entry_mark : Entry → Mark
entry_mark e = mark_of e.call e.reply

-- those of a history
abbrev pub marks_of : List Entry → List Mark
marks_of history = map entry_mark history

abbrev pub all_marks : List (List Entry) → List Mark
all_marks histories = flat_map marks_of histories

-- ---- calls that are made again

-- where the line's thread has a next call, that call is made, and shown as it is answered
abbrev pub ShowsNext : Plain → Progress → EntryLine → Shown → Plain → Progress → Type 0
ShowsNext u p line s w q =
    (i : ℕ) (call : Call) → next_call p line.phase line.thread ≡ Some (i, call)
    → (s.mark ≡ mark_of call (answer u call).0) × (w ≡ (answer u call).1) × (q ≡ taken i p)

-- where the lines are those of a run of the leg, each call of that run is shown as it was answered, after those that were shown
-- before, and this is the state after it
abbrev pub ShowsRun : Plain → Leg → List EntryLine → List Shown → List Shown → Plain → Type 0
ShowsRun first leg entries before shown now =
    (h : List Entry) → IsLegRun first leg h → entries ≡ run_lines leg h → (marks shown ≡ marks before ++ marks_of h) × (now ≡ after first h)

-- where this is what a report tells of a run of the script, each call of all its legs is shown as it was answered
abbrev pub ShowsRuns : Plain → Script → List LegLines → List Shown → List Shown → Type 0
ShowsRuns first script legs before shown =
    (histories : List (List Entry)) → IsRun first script.legs histories → legs ≡ reported first script.legs (copies_of script.moves) histories
    → marks shown ≡ marks before ++ all_marks histories
