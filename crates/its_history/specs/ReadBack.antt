-- What is claimed of reports that are read back: what is read prints as it was, and what is printed is read as it is.
use Rattle.std.specs.Prelude.{◌≡◌, ℕ, zero, suc, ◌+◌, ◌^◌, ◌<◌, Bool, true, false, List, [], ◌∷◌, length, drop, Option, Some, None, Ok}
use Rattle.std.specs.List.{AllByRecursion}
use Rattle.its_history.specs.Report.{report_text}
use Rattle.its_history.specs.Reading.{is_printed, is_answered, Move, move_after, trace_of}
use Rattle.its_history.specs.declared.trace.End.{End}
use Rattle.its_history.specs.declared.trace.End.TheVariants.{Migrated, Copied, Done}
use Rattle.its_history.specs.declared.trace.EntryLine.{EntryLine}
use Rattle.its_history.specs.declared.trace.Leg.{Leg}

-- ---- the shape of a report

-- entries stand at the places from n on
abbrev pub ArePlaced : ℕ → List EntryLine → Type 0
ArePlaced n [] = Unit {0}
ArePlaced n (l ∷ lines) = (l.place ≡ n) × ArePlaced (n + 1) lines

-- how a leg ends that this follows
abbrev pub EndsBefore : Move → Option End → Type 0
EndsBefore None end = end ≡ Some Done
EndsBefore (Some false) end = end ≡ Some Migrated
EndsBefore (Some true) end = (pages : List ℕ) × (end ≡ Some (Copied pages))

-- a leg that this follows, with so many virtual processors
pub record HasLegShape (vcpus : ℕ) (move : Move) (leg : Leg) : Type 0 where
  pub placed : ArePlaced 0 leg.entries
  pub pending : length leg.pending ≡ vcpus
  pub ends : EndsBefore move leg.end

-- so many legs, of which a migration ends each but the last
abbrev pub HasShape : ℕ → ℕ → List Bool → List Leg → Type 0
HasShape vcpus zero copies [] = Unit {0}
HasShape vcpus zero copies (leg ∷ legs) = ⊥
HasShape vcpus (suc later) copies [] = ⊥
HasShape vcpus (suc later) copies (leg ∷ legs) = HasLegShape vcpus (move_after later copies) leg × HasShape vcpus later (drop 1 copies) legs

-- ---- texts that can be read back

pub record IsReadable (l : EntryLine) : Type 0 where
  pub place : l.place < 2 ^ 64
  pub phase : l.phase < 2 ^ 32
  pub thread : l.thread < 2 ^ 32
  pub printed : is_printed l.text ≡ true
  pub answered : is_answered l.text ≡ true

pub record IsSome (text : List ℕ) : Type 0 where
  pub some : 0 < length text
  pub printed : is_printed text ≡ true

abbrev pub IsEndReadable : Option End → Type 0
IsEndReadable (Some (Copied pages)) = IsSome pages
IsEndReadable _ = Unit {0}

pub record IsLegReadable (leg : Leg) : Type 0 where
  pub entries : AllByRecursion IsReadable leg.entries
  pub count : length leg.entries < 2 ^ 64
  pub pending : AllByRecursion IsSome leg.pending
  pub end : IsEndReadable leg.end

-- ---- laws

pub record IsReport (legs : ℕ) (copies : List Bool) (vcpus : ℕ) (text : List ℕ) (told : List Leg) : Type 0 where
  pub shape : HasShape vcpus legs copies told
  pub same : report_text told ≡ text

abbrev pub ReadReportsPrint : Type 0
ReadReportsPrint =
    (legs : ℕ) (copies : List Bool) (vcpus : ℕ) (text : List ℕ) (told : List Leg) → trace_of legs copies vcpus text ≡ Ok told
    → IsReport legs copies vcpus text told

abbrev pub PrintedReportsAreRead : Type 0
PrintedReportsAreRead =
    (legs : ℕ) (copies : List Bool) (vcpus : ℕ) (told : List Leg) → legs < 2 ^ 32 → vcpus < 2 ^ 32 → HasShape vcpus legs copies told
    → AllByRecursion IsLegReadable told → trace_of legs copies vcpus (report_text told) ≡ Ok told
