-- The outcome of the check of a line, of the entries of a leg, and of a leg.
use Rattle.std.specs.Prelude.{◌≡◌, ◌≢◌, ◌⊎◌, ℕ, Bool, List, ◌∷◌, ◌++◌, length, codes, Option, Some, None, Result, Ok, Err}
use Rattle.its_plain.specs.Plain.{Plain}
use Rattle.its_plain.specs.Answer.{answer}
use Rattle.its_plain.specs.History.{after}
use Rattle.its_plain.specs.Regions.{savable}
use Rattle.its_plain.specs.Runs.{Leg, IsLegRun}
use Rattle.its_plain.specs.Saved.{IsSavable, moved}
use Rattle.its_plain.specs.declared.call.Call.{Call}
use Rattle.its_plain.specs.declared.call.Entry.{Entry}
use Rattle.its_plain.specs.declared.fault.SaveFault.{SaveFault}
use Rattle.its_plain.specs.declared.fault.SaveError.{SaveError}
use Rattle.its_plain.specs.declared.fault.SaveError.TheVariants as errors
use Rattle.its_history.specs.Report.{told_text, vcpu_text, end_text}
use Rattle.its_history.specs.Reports.{moved_end}
use Rattle.its_history.specs.Texts.{answered_text, save_fault_text}
use Rattle.its_history.specs.declared.trace.End.{End}
use Rattle.its_history.specs.declared.trace.EntryLine.{EntryLine}
use Rattle.its_history.specs.declared.trace.Leg.{Leg as LegLines}
use Rattle.trace_check.specs.Cursors.{Progress, next_call, taken}
use Rattle.trace_check.specs.Differences.{lines, pending_texts, EntryDiffers, EndsEarly, IsHere}
use Rattle.trace_check.specs.declared.verdict.Difference.{Difference}

-- ---- one entry

abbrev pub right_text : Plain → Call → List ℕ
right_text u c = answered_text c (answer u c).0

-- the line has the text of its thread's next call, which is answered
pub record IsRight (u : Plain) (p : Progress) (line : EntryLine) (w : Plain) (q : Progress) : Type 0 where
  pub thread : ℕ
  pub call : Call
  pub next : next_call p line.phase line.thread ≡ Some (thread, call)
  pub text : line.text ≡ right_text u call
  pub state : w ≡ (answer u call).1
  pub progress : q ≡ taken thread p

-- its thread's next call has another text
pub record HasOtherText (u : Plain) (p : Progress) (line : EntryLine) (is : List ℕ) : Type 0 where
  pub thread : ℕ
  pub call : Call
  pub next : next_call p line.phase line.thread ≡ Some (thread, call)
  pub other : line.text ≢ right_text u call
  pub is_text : is ≡ told_text line.phase line.thread (right_text u call)

-- its thread has no call
pub record HasNoCall (p : Progress) (line : EntryLine) (is : List ℕ) : Type 0 where
  pub next : next_call p line.phase line.thread ≡ None
  pub is_nothing : is ≡ codes "nothing"

abbrev pub IsWrong : Plain → Progress → EntryLine → List ℕ → Type 0
IsWrong u p line is = HasOtherText u p line is ⊎ HasNoCall p line is

-- ---- a leg

-- all entries of the leg are right
pub record AreEntries (first : Plain) (leg : Leg) (entries : List EntryLine) (now : Plain) : Type 0 where
  pub history : List Entry
  pub is_run : IsLegRun first leg history
  pub lines_are : entries ≡ lines leg history
  pub now_is : now ≡ after first history

-- and so is what is pending
pub record IsLegRight (first : Plain) (leg : Leg) (entries : List EntryLine) (pending : List (List ℕ)) (now : Plain) : Type 0 where
  pub are_entries : AreEntries first leg entries now
  pub pending_is : pending ≡ pending_texts now

-- ---- lines that aren't right

-- the line of a virtual processor
pub record IsOtherPending (u : Plain) (told : List (List ℕ)) (said is : List ℕ) : Type 0 where
  pub before : List (List ℕ)
  pub said_text : List ℕ
  pub said_later : List (List ℕ)
  pub pending_said : told ≡ before ++ said_text ∷ said_later
  pub is_text : List ℕ
  pub is_later : List (List ℕ)
  pub pending_is : pending_texts u ≡ before ++ is_text ∷ is_later
  pub differs : said_text ≢ is_text
  pub said_line : said ≡ vcpu_text (length before) said_text
  pub is_line : is ≡ vcpu_text (length before) is_text

-- the entries of a leg, whatever else it has
pub record EntriesDiffer (n : ℕ) (first : Plain) (leg : Leg) (entries : List EntryLine) (d : Difference) : Type 0 where
  pub leg_is : d.leg ≡ n
  pub differs : (told : LegLines) → told.entries ≡ entries → EntryDiffers first leg told d ⊎ EndsEarly first leg told d

-- ---- migrations

-- a migration, before which pages may be copied: the state moved, and how the leg ended, or why it can't be saved
abbrev pub Moves : Bool → Result End SaveError → Plain → Plain → Type 0
Moves copies (Ok end) u w = (savable u ≡ Ok tt) × (w ≡ moved u) × (end ≡ moved_end copies u)
Moves copies (Err (errors.Fault f)) u w = savable u ≡ Err f
Moves copies (Err errors.NoMemory) u w = Unit {0}

-- the last line is right
pub record IsMigrated (copies : Bool) (end : Option End) (u w : Plain) : Type 0 where
  pub is_savable : IsSavable u
  pub now : w ≡ moved u
  pub end_is : end ≡ Some (moved_end copies u)

-- the state can't be saved
pub record IsFault (u : Plain) (is : List ℕ) : Type 0 where
  pub fault : SaveFault
  pub not_savable : savable u ≡ Err fault
  pub is_fault : is ≡ codes "save-fault " ++ save_fault_text fault

-- the last line isn't that of the migration
pub record IsOtherEnd (copies : Bool) (end : End) (u : Plain) (is : List ℕ) : Type 0 where
  pub is_savable : IsSavable u
  pub differs : end ≢ moved_end copies u
  pub is_line : is ≡ end_text (moved_end copies u)

-- the last line isn't right
pub record IsEndOther (copies : Bool) (told : Option End) (u : Plain) (said is : List ℕ) : Type 0 where
  pub end : End
  pub told_is : told ≡ Some end
  pub said_is : said ≡ end_text end
  pub wrong : IsFault u is ⊎ IsOtherEnd copies end u is

pub record IsEndWrong (n place : ℕ) (copies : Bool) (told : Option End) (u : Plain) (d : Difference) : Type 0 where
  pub leg_is : d.leg ≡ n
  pub place_is : d.place ≡ place
  pub line : IsEndOther copies told u d.said d.is

-- ---- a leg with its last line; where another follows, whether pages are copied before the migration between them

-- the last line is right, and this is the state that goes on
abbrev pub IsEndRight : Option Bool → Option End → Plain → Plain → Type 0
IsEndRight None told u w = w ≡ u
IsEndRight (Some copies) told u w = IsMigrated copies told u w

pub record IsWhole (first : Plain) (leg : Leg) (copies : Option Bool) (told : LegLines) (now : Plain) : Type 0 where
  pub last : Plain
  pub lines : IsLegRight first leg told.entries told.pending last
  pub end : IsEndRight copies told.end last now

-- the lines before the last are right, and the last isn't
pub record IsLastWrong (n : ℕ) (first : Plain) (leg : Leg) (copies : Bool) (told : LegLines) (d : Difference) : Type 0 where
  pub last : Plain
  pub lines : IsLegRight first leg told.entries told.pending last
  pub end : IsEndWrong n (length told.entries) copies told.end last d

abbrev pub IsNotWhole : ℕ → Plain → Leg → Option Bool → LegLines → Difference → Type 0
IsNotWhole n first leg None told d = IsHere n first leg told d
IsNotWhole n first leg (Some copies) told d = IsHere n first leg told d ⊎ IsLastWrong n first leg copies told d
