-- What commands did that name an event, in words.
use Rattle.std.specs.Prelude.{ℕ, ◌==◌, if◌then◌else◌, List, [], ◌++◌, codes, Option, Some, None}
use Rattle.call_facts.specs.Lpis.{pending_change}
use Rattle.call_facts.specs.Pairs.{event_change}
use Rattle.call_facts.specs.declared.lpis.PendingChange.{PendingChange}
use Rattle.call_facts.specs.declared.lpis.PendingChange.TheVariants as pending
use Rattle.call_facts.specs.declared.pairs.EventChange.{EventChange}
use Rattle.call_facts.specs.declared.pairs.EventChange.TheVariants as change
use Rattle.its_types.specs.declared.ids.Vcpu.{Vcpu}
use Rattle.its_types.specs.declared.translation.Event.{Event}
use Rattle.its_explain.specs.Numbers.{numbered}
use Rattle.its_explain.specs.Signals.{event_by, standing_text}
use Rattle.its_explain.specs.declared.book.Book.{Book}
use Rattle.its_explain.specs.declared.facts.EventFact.{EventFact}

unfoldable pub event_text : EventFact → List ℕ
event_text f = numbered (codes "event ") f.ev.0 ++ numbered (codes " of device ") f.dev.0

unfoldable pub lpi_number : ℕ → List ℕ
lpi_number intid = numbered (codes "LPI ") intid ++ codes " of "

abbrev pub lpi_name : Option Event → List ℕ
lpi_name None = codes "the LPI of "
lpi_name (Some e) = lpi_number e.intid.0

-- the LPI of an event, as it was mapped before
unfoldable pub lpi_text : EventFact → List ℕ
lpi_text f = lpi_name f.before.event ++ event_text f

-- where it then went
abbrev pub place_text : Option Vcpu → List ℕ
place_text None = []
place_text (Some vcpu) = numbered (codes " at processor ") vcpu.0

-- ---- MAPTI and MAPI

unfoldable pub lpi_of_text : List ℕ → Event → List ℕ
lpi_of_text words e = numbered words e.intid.0 ++ numbered (codes " of collection ") e.icid.0

abbrev pub unless_mapped : Option Vcpu → List ℕ
unless_mapped None = codes ", which isn't mapped"
unless_mapped (Some vcpu) = []

unfoldable pub new_text : EventFact → Event → List ℕ
new_text f e = lpi_of_text (codes " is LPI ") e ++ unless_mapped f.after.target

unfoldable pub kept_text : Book → EventFact → Event → List ℕ
kept_text b f e = lpi_of_text (codes " stays LPI ") e ++ codes ", as it was mapped" ++ event_by b f ++ codes ": a mapped event isn't mapped again"

abbrev pub mapping : Book → EventFact → Event → EventChange → List ℕ
mapping b f e change.Absent = kept_text b f e
mapping b f e change.Mapped = new_text f e
mapping b f e change.Unmapped = kept_text b f e
mapping b f e change.Kept = kept_text b f e
mapping b f e change.Moved = kept_text b f e

abbrev pub mapping_text : Book → EventFact → Event → List ℕ
mapping_text b f e = mapping b f e (event_change f.before.event f.after.event)

unfoldable pub mapped_text : Book → EventFact → Event → List ℕ
mapped_text b f e = event_text f ++ mapping_text b f e

-- what it is mapped to, if it is
abbrev pub mapped_if : Book → EventFact → Option Event → List ℕ
mapped_if b f None = []
mapped_if b f (Some e) = mapped_text b f e

-- ---- INT and CLEAR

unfoldable pub set_text : EventFact → List ℕ
set_text f = lpi_text f ++ codes " is pending" ++ place_text f.before.target ++ standing_text f.was

abbrev pub ended_text : PendingChange → List ℕ
ended_text pending.Nowhere = codes " was not pending"
ended_text pending.Absent = codes " was not pending"
ended_text pending.Began = codes " was not pending"
ended_text pending.Ended = codes " is not pending any more"
ended_text pending.Stayed = codes " was not pending"

abbrev pub ended_of : EventFact → List ℕ
ended_of f = ended_text (pending_change f.was f.is)

unfoldable pub cleared_text : EventFact → List ℕ
cleared_text f = lpi_text f ++ ended_of f ++ place_text f.before.target

-- ---- MOVI

unfoldable pub same_collection_text : EventFact → ℕ → List ℕ
same_collection_text f icid = event_text f ++ numbered (codes " is of collection ") icid ++ codes " already, so nothing changes"

unfoldable pub stays_pending_text : ℕ → List ℕ
stays_pending_text intid = numbered (codes ", and its LPI ") intid ++ codes " stays pending there"

-- at the processor where it was
abbrev pub at_same : PendingChange → ℕ → List ℕ
at_same pending.Nowhere intid = []
at_same pending.Absent intid = []
at_same pending.Began intid = []
at_same pending.Ended intid = []
at_same pending.Stayed intid = stays_pending_text intid

unfoldable pub here_text : PendingChange → ℕ → ℕ → List ℕ
here_text p intid to = numbered (codes ", at processor ") to ++ codes " as before" ++ at_same p intid

unfoldable pub around : List ℕ → ℕ → List ℕ → List ℕ
around before intid after = numbered before intid ++ after

-- and at another
abbrev pub at_other : PendingChange → ℕ → List ℕ
at_other pending.Nowhere intid = around (codes "; its LPI ") intid (codes " isn't pending")
at_other pending.Absent intid = around (codes "; its LPI ") intid (codes " isn't pending")
at_other pending.Began intid = around (codes ", where its LPI ") intid (codes " is pending already")
at_other pending.Ended intid = around (codes "; its LPI ") intid (codes " isn't pending")
at_other pending.Stayed intid = around (codes ", and its pending LPI ") intid (codes " too")

unfoldable pub there_text : PendingChange → ℕ → ℕ → ℕ → List ℕ
there_text p intid from to = numbered (codes ", from processor ") from ++ numbered (codes " to processor ") to ++ at_other p intid

abbrev pub way_text : EventFact → ℕ → ℕ → ℕ → List ℕ
way_text f intid from to =
    if from == to then here_text (pending_change f.was f.is) intid to else there_text (pending_change f.was f.is) intid from to

abbrev pub way_between : EventFact → ℕ → Option Vcpu → Option Vcpu → List ℕ
way_between f intid (Some from) (Some to) = way_text f intid from.0 to.0
way_between f intid (Some from) None = []
way_between f intid None to = []

unfoldable pub moved_text : EventFact → Event → List ℕ
moved_text f e = event_text f ++ numbered (codes " goes to collection ") e.icid.0 ++ way_between f e.intid.0 f.before.target f.after.target

abbrev pub movi : EventFact → Event → EventChange → List ℕ
movi f e change.Absent = moved_text f e
movi f e change.Mapped = moved_text f e
movi f e change.Unmapped = moved_text f e
movi f e change.Kept = same_collection_text f e.icid.0
movi f e change.Moved = moved_text f e

abbrev pub movi_text : EventFact → Event → List ℕ
movi_text f e = movi f e (event_change f.before.event f.after.event)

abbrev pub movi_if : EventFact → Option Event → List ℕ
movi_if f None = []
movi_if f (Some e) = movi_text f e
