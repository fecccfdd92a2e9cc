-- The first line of a report that isn't that of a run: the lines before it are right, and this one isn't.
use Rattle.std.specs.Prelude.{◌≡◌, ◌≢◌, ◌⊎◌, ℕ, ◌+◌, ◌<◌, Bool, List, [], ◌∷◌, ◌++◌, length, map, drop, codes, Some, Err}
use Rattle.its_plain.specs.Plain.{Plain}
use Rattle.its_plain.specs.History.{after}
use Rattle.its_plain.specs.Regions.{savable}
use Rattle.its_plain.specs.Runs.{Leg, IsLegRun, IsPartOfLegRun}
use Rattle.its_plain.specs.Saved.{IsSavable, moved}
use Rattle.its_plain.specs.declared.call.Entry.{Entry}
use Rattle.its_plain.specs.declared.fault.SaveFault.{SaveFault}
use Rattle.its_history.specs.Histories.{Seat, seat_of, history_lines}
use Rattle.its_history.specs.ReadBack.{EndsBefore}
use Rattle.its_history.specs.Report.{told_text, vcpu_text, pending_text, end_text}
use Rattle.its_history.specs.Reports.{thread_counts, pending_lists, ended, copies_first, moved_end, moved_leg}
use Rattle.its_history.specs.Texts.{answered_text, save_fault_text}
use Rattle.its_history.specs.declared.trace.End.{End}
use Rattle.its_history.specs.declared.trace.EntryLine.{EntryLine}
use Rattle.its_history.specs.declared.trace.Leg.{Leg as LegLines}
use Rattle.trace_check.specs.declared.verdict.Difference.{Difference}

-- ---- entries

-- phase and thread of a pass
abbrev pub seat : Leg → ℕ → Seat
seat leg pass = seat_of (thread_counts leg) pass

abbrev pub lines : Leg → List Entry → List EntryLine
lines leg h = history_lines (seat_of (thread_counts leg)) 0 h

-- with this entry too it is part of the leg's history: its call is its thread's next one in the first phase that has calls left, and
-- its reply is the plain machine's
abbrev pub MayFollow : Plain → Leg → List Entry → Entry → Type 0
MayFollow first leg h e = IsPartOfLegRun first leg (h ++ e ∷ [])

-- what an entry's line says after its place
abbrev pub entry_told : Leg → Entry → List ℕ
entry_told leg e = told_text (seat leg e.pass).0 (seat leg e.pass).1 (answered_text e.call e.reply)

abbrev pub line_told : EntryLine → List ℕ
line_told line = told_text line.phase line.thread line.text

-- the line's thread has a next call, but its text isn't that of the call and the plain machine's reply
pub record IsOther (first : Plain) (leg : Leg) (h : List Entry) (line : EntryLine) (is : List ℕ) : Type 0 where
  pub entry : Entry
  pub next : MayFollow first leg h entry
  pub same_thread : seat leg entry.pass ≡ (line.phase, line.thread)
  pub other_text : line.text ≢ answered_text entry.call entry.reply
  pub is_entry : is ≡ entry_told leg entry

-- the line's thread has no call left in the first phase that has calls left
pub record IsNone (first : Plain) (leg : Leg) (h : List Entry) (line : EntryLine) (is : List ℕ) : Type 0 where
  pub none : (e : Entry) → seat leg e.pass ≡ (line.phase, line.thread) → ¬ MayFollow first leg h e
  pub is_nothing : is ≡ codes "nothing"

-- the lines before an entry are those of a part of the leg's history, and the entry may not follow
pub record EntryDiffers (first : Plain) (leg : Leg) (told : LegLines) (d : Difference) : Type 0 where
  pub history : List Entry
  pub is_part : IsPartOfLegRun first leg history
  pub line : EntryLine
  pub later : List EntryLine
  pub entries : told.entries ≡ lines leg history ++ line ∷ later
  pub place : d.place ≡ length history
  pub said : d.said ≡ line_told line
  pub differs : IsOther first leg history line d.is ⊎ IsNone first leg history line d.is

-- the entries are those of a part of the leg's history, and another may follow: the least thread's that has calls left
pub record EndsEarly (first : Plain) (leg : Leg) (told : LegLines) (d : Difference) : Type 0 where
  pub history : List Entry
  pub is_part : IsPartOfLegRun first leg history
  pub entries : told.entries ≡ lines leg history
  pub place : d.place ≡ length history
  pub said : d.said ≡ codes "nothing"
  pub entry : Entry
  pub next : MayFollow first leg history entry
  pub least : (e : Entry) → e.pass < entry.pass → ¬ MayFollow first leg history e
  pub is_entry : d.is ≡ entry_told leg entry

-- ---- the lines after the entries

abbrev pub pending_texts : Plain → List (List ℕ)
pending_texts u = map pending_text (pending_lists u)

-- all entries are right, and so are the lines of some virtual processors, but not that of the next
pub record PendingDiffers (first : Plain) (leg : Leg) (told : LegLines) (d : Difference) : Type 0 where
  pub history : List Entry
  pub is_run : IsLegRun first leg history
  pub entries : told.entries ≡ lines leg history
  pub place : d.place ≡ length history
  pub before : List (List ℕ)
  pub said_text : List ℕ
  pub said_later : List (List ℕ)
  pub pending_said : told.pending ≡ before ++ said_text ∷ said_later
  pub is_text : List ℕ
  pub is_later : List (List ℕ)
  pub pending_is : pending_texts (after first history) ≡ before ++ is_text ∷ is_later
  pub differs : said_text ≢ is_text
  pub said : d.said ≡ vcpu_text (length before) said_text
  pub is_line : d.is ≡ vcpu_text (length before) is_text

-- ---- the last line, of a leg before another: copies tell of each migration, from the leg's on, whether pages are copied before it

-- all lines but the last are right, and the last is as such a leg may end, but the state at the end can't be saved
pub record CannotMigrate (first : Plain) (leg : Leg) (copies : List Bool) (told : LegLines) (d : Difference) : Type 0 where
  pub history : List Entry
  pub is_run : IsLegRun first leg history
  pub end : End
  pub ends : EndsBefore (Some (copies_first copies)) (Some end)
  pub right : told ≡ ended first leg history (Some end)
  pub place : d.place ≡ length history
  pub said : d.said ≡ end_text end
  pub fault : SaveFault
  pub not_savable : savable (after first history) ≡ Err fault
  pub is_fault : d.is ≡ codes "save-fault " ++ save_fault_text fault

-- the same, and the state can be saved, but the last line isn't that of its migration: another number of pages was copied
pub record EndDiffers (first : Plain) (leg : Leg) (copies : List Bool) (told : LegLines) (d : Difference) : Type 0 where
  pub history : List Entry
  pub is_run : IsLegRun first leg history
  pub is_savable : IsSavable (after first history)
  pub end : End
  pub ends : EndsBefore (Some (copies_first copies)) (Some end)
  pub right : told ≡ ended first leg history (Some end)
  pub differs : end ≢ moved_end (copies_first copies) (after first history)
  pub place : d.place ≡ length history
  pub said : d.said ≡ end_text end
  pub is_line : d.is ≡ end_text (moved_end (copies_first copies) (after first history))

-- ---- legs

-- a line before the last
abbrev pub LinesDiffer : Plain → Leg → LegLines → Difference → Type 0
LinesDiffer first leg told d = EntryDiffers first leg told d ⊎ (EndsEarly first leg told d ⊎ PendingDiffers first leg told d)

-- a leg before another is right, and ends with a migration
pub record IsRightLeg (first : Plain) (leg : Leg) (copies : List Bool) (told : LegLines) (h : List Entry) : Type 0 where
  pub is_run : IsLegRun first leg h
  pub right : told ≡ moved_leg first leg copies h
  pub savable : IsSavable (after first h)

-- the difference is in this leg
pub record IsHere (n : ℕ) (first : Plain) (leg : Leg) (told : LegLines) (d : Difference) : Type 0 where
  pub leg_is : d.leg ≡ n
  pub lines : LinesDiffer first leg told d

pub record IsAtEnd (n : ℕ) (first : Plain) (leg : Leg) (copies : List Bool) (told : LegLines) (d : Difference) : Type 0 where
  pub leg_is : d.leg ≡ n
  pub end : CannotMigrate first leg copies told d ⊎ EndDiffers first leg copies told d

-- the first difference of legs that are counted from n on
abbrev pub DiffersFrom : ℕ → Plain → List Leg → List Bool → List LegLines → Difference → Type 0
DiffersFrom n first [] copies told d = ⊥
DiffersFrom n first (leg ∷ legs) copies [] d = ⊥
DiffersFrom n first (leg ∷ []) copies (t ∷ told) d = IsHere n first leg t d
DiffersFrom n first (leg ∷ (next ∷ legs)) copies (t ∷ told) d =
    IsHere n first leg t d ⊎ (IsAtEnd n first leg copies t d
    ⊎ ((h : List Entry) × IsRightLeg first leg copies t h × DiffersFrom (n + 1) (moved (after first h)) (next ∷ legs) (drop 1 copies) told d))

abbrev pub IsDifference : Plain → List Leg → List Bool → List LegLines → Difference → Type 0
IsDifference first legs copies told d = DiffersFrom 1 first legs copies told d
