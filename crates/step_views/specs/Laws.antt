-- What the views of a step are worth.
use Rattle.std.specs.Prelude.{◌≡◌, ◌≤◌, ℕ, ◌+◌, true, List, map, Option, Some}
use Rattle.std.specs.List.{AllByRecursion}
use Rattle.dirty_log.specs.declared.tracked.Tracked.{Tracked}
use Rattle.guest_windows.specs.Windows.{Window, read_at, byte_at, extent}
use Rattle.guest_windows.proofs.Laws.{Apart}
use Rattle.its_plain.specs.Answer.{step_reply, step_left, next_bytes}
use Rattle.its_plain.specs.Plain.{Plain, regs_of}
use Rattle.its_plain.specs.Saved.{saved, words_of}
use Rattle.its_plain.specs.Sound.{IsSound}
use Rattle.its_plain.specs.Translation.{translated}
use Rattle.owned_machine.specs.Lent.{on, left_on}
use Rattle.table_save.specs.Stretches.{stretches_of}
use Rattle.step_views.specs.Counts.{event_count, adds_event, growth}
use Rattle.step_views.specs.Destinations.{destination, signalled}
use Rattle.step_views.specs.Reads.{reads, reads_by}

-- ---- what a step reads

-- the stretch has the same bytes in both memories, or lies in one window of neither
abbrev pub HasSameBytes : List Window → List Window → ℕ × ℕ → Type 0
HasSameBytes memory now stretch = read_at now stretch.0 stretch.1 ≡ read_at memory stretch.0 stretch.1

-- the same windows, with the same bytes in each of these stretches
pub record AgreeIn (stretches : List (ℕ × ℕ)) (memory now : List Window) : Type 0 where
  pub windows : map extent now ≡ map extent memory
  pub bytes : AllByRecursion (HasSameBytes memory now) stretches

-- the state with another memory, and another copy of it
abbrev pub over : List Window → Option Tracked → Plain → Plain
over memory track u = record u { memory = memory; track = track }

-- whatever the other bytes are, a step is answered the same, and leaves the same of all else
abbrev pub StepReads : Type 0
StepReads = (u : Plain) (i : ℕ) (memory : List Window) (track : Option Tracked) → IsSound u → AgreeIn (reads u i) u.memory memory
    → (step_reply (over memory track u) i ≡ step_reply u i) × (step_left (over memory track u) i ≡ over memory track (step_left u i))

-- it reads what is said by its command's bytes
abbrev pub StepReadsBy : Type 0
StepReadsBy = (u : Plain) (i : ℕ) (bytes : List ℕ) → next_bytes u i ≡ Some bytes → reads u i ≡ reads_by u i bytes

-- a step on other memory that has these bytes is answered as one on guest memory, and leaves the same
abbrev pub LentStepsAgree : Type 0
LentStepsAgree = (u : Plain) (i : ℕ) (memory : List Window) → IsSound u → AgreeIn (reads u i) u.memory memory
    → (step_reply (on memory u) i ≡ step_reply u i) × (left_on memory u i ≡ step_left u i)

-- ---- where an event leads

abbrev pub DestinationTells : Type 0
DestinationTells = (u : Plain) (i dev ev : ℕ) → (regs_of u i).enabled ≡ true → translated u i dev ev ≡ signalled (destination u i dev ev)

-- ---- how many events are mapped

-- a step maps one event more at most, and only where it is one that adds an event
abbrev pub StepsAddOne : Type 0
StepsAddOne = (u : Plain) (i : ℕ) → event_count (step_left u i) i ≤ event_count u i + growth (adds_event u i)

-- ---- what a save writes

-- a byte outside all of these stretches
abbrev pub IsOutside : List (ℕ × ℕ) → ℕ → Type 0
IsOutside stretches address = AllByRecursion (λ s. Apart s.0 s.1 address 1) stretches

-- a save changes no byte outside the stretches that it writes, and no window
abbrev pub SavesStayInside : Type 0
SavesStayInside = (u : Plain) → (map extent (saved u) ≡ map extent u.memory)
    × ((address : ℕ) → IsOutside (stretches_of (words_of u)) address → byte_at (saved u) address ≡ byte_at u.memory address)
