-- The state at a place of a run: its first calls are made.
use Rattle.std.specs.Prelude.{◌≡◌, ℕ, zero, suc, nat_lt, if◌then◌else◌, Bool, List, [], ◌∷◌, length, take, Option, Some, None}
use Rattle.its_plain.specs.Plain.{Plain}
use Rattle.its_plain.specs.History.{after}
use Rattle.its_plain.specs.Runs.{Leg, IsLegRun, IsPartOfLegRun, IsRun}
use Rattle.its_plain.specs.Saved.{IsSavable, moved}
use Rattle.its_plain.specs.declared.call.Entry.{Entry}
use Rattle.its_history.specs.Reports.{reported}
use Rattle.its_history.specs.declared.trace.EntryLine.{EntryLine}
use Rattle.its_history.specs.declared.trace.Leg.{Leg as LegLines}
use Rattle.its_plain.specs.Answer.{answer}
use Rattle.its_plain.specs.declared.call.Call.{Call}
use Rattle.trace_check.specs.Cursors.{Progress, next_call, taken}
use Rattle.trace_check.specs.Differences.{lines}

-- after so many calls of a leg, of which the first is 0, if the run has them: each leg but the first begins at the machine moved
abbrev pub state_at : Plain → List (List Entry) → ℕ → ℕ → Option Plain
state_at first [] leg place = None
state_at first (h ∷ hs) zero place = if nat_lt (length h) place then None else Some (after first (take place h))
state_at first (h ∷ hs) (suc leg) place = state_at (moved (after first h)) hs leg place

-- where the line's thread has a next call, that call is made
abbrev pub Makes : Plain → Progress → EntryLine → Plain → Progress → Type 0
Makes u p line w q =
    (i : ℕ) (call : Call) → next_call p line.phase line.thread ≡ Some (i, call) → (w ≡ (answer u call).1) × (q ≡ taken i p)

-- where the lines are those of a part of a run of the leg, its calls are made
abbrev pub Follows : Plain → Leg → List EntryLine → Plain → Type 0
Follows first leg entries now = (h : List Entry) → IsPartOfLegRun first leg h → entries ≡ lines leg h → now ≡ after first h

-- where they are those of a run of the leg, and the state after it can be saved, the machine is moved too
abbrev pub PassesOver : Plain → Leg → List EntryLine → Plain → Type 0
PassesOver first leg entries now =
    (h : List Entry) → IsLegRun first leg h → entries ≡ lines leg h → IsSavable (after first h) → now ≡ moved (after first h)

-- where this is what a report tells of a run of the legs, the state at the place is reached, if the run has it
abbrev pub Reaches : Plain → List Leg → List LegLines → ℕ → ℕ → Option Plain → Type 0
Reaches first legs told leg place reached =
    (copies : List Bool) (histories : List (List Entry)) → IsRun first legs histories → told ≡ reported first legs copies histories
    → reached ≡ state_at first histories leg place
