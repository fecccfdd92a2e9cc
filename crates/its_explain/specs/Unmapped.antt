-- What DISCARD did, in words.
use Rattle.std.specs.Prelude.{ℕ, zero, suc, if◌then◌else◌, List, [], ◌++◌, codes, Option, Some, None}
use Rattle.call_facts.specs.Lpis.{pending_change}
use Rattle.call_facts.specs.declared.lpis.LpiState.{LpiState}
use Rattle.call_facts.specs.declared.lpis.PendingChange.{PendingChange}
use Rattle.call_facts.specs.declared.lpis.PendingChange.TheVariants as pending
use Rattle.its_plain.specs.Plain.{Plain}
use Rattle.its_types.specs.declared.translation.Event.{Event}
use Rattle.its_explain.specs.Events.{around, event_text, place_text}
use Rattle.its_explain.specs.Numbers.{enclosed, numbered}
use Rattle.its_explain.specs.Views.{lpi_at}
use Rattle.its_explain.specs.declared.facts.EventFact.{EventFact}

-- ---- where the collection of the event isn't mapped

unfoldable pub stays_text : ℕ → ℕ → List ℕ
stays_text intid vcpu = numbered (codes "; LPI ") intid ++ numbered (codes " stays pending at processor ") vcpu

-- how the LPI stands at a processor
abbrev pub standing : ℕ → ℕ → Option LpiState → List ℕ
standing intid vcpu None = []
standing intid vcpu (Some s) = if s.pending then stays_text intid vcpu else []

-- at which of so many processors it is pending
abbrev pub elsewhere_text : Plain → ℕ → ℕ → List ℕ
elsewhere_text u intid zero = []
elsewhere_text u intid (suc n) = elsewhere_text u intid n ++ standing intid n (lpi_at u n intid)

abbrev pub no_place_text : ℕ → List ℕ
no_place_text icid = enclosed (codes "; its collection ") icid (codes " isn't mapped, so no LPI is cleared")

unfoldable pub nowhere_text : Plain → Event → List ℕ
nowhere_text u e = no_place_text e.icid.0 ++ elsewhere_text u e.intid.0 u.layout.shape.vcpus

-- ---- where it is

unfoldable pub ended_text : EventFact → ℕ → List ℕ
ended_text f intid = around (codes ", and its LPI ") intid (codes " is not pending any more") ++ place_text f.before.target

unfoldable pub still_text : EventFact → ℕ → List ℕ
still_text f intid = around (codes "; its LPI ") intid (codes " was not pending") ++ place_text f.before.target

-- what became of the LPI, in the state after the command
abbrev pub by_change : Plain → EventFact → Event → PendingChange → List ℕ
by_change u f e pending.Nowhere = nowhere_text u e
by_change u f e pending.Absent = still_text f e.intid.0
by_change u f e pending.Began = still_text f e.intid.0
by_change u f e pending.Ended = ended_text f e.intid.0
by_change u f e pending.Stayed = still_text f e.intid.0

-- of the event that was mapped, if one was
abbrev pub lpi_of_event : Plain → EventFact → Option Event → List ℕ
lpi_of_event u f None = []
lpi_of_event u f (Some e) = by_change u f e (pending_change f.was f.is)

unfoldable pub unmapped_text : Plain → EventFact → List ℕ
unmapped_text u f = event_text f ++ codes " is unmapped" ++ lpi_of_event u f f.before.event
