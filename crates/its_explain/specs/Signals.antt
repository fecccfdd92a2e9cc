-- Where a message went, in words: by the lines whose commands last changed what the maps answer.
use Rattle.std.specs.Prelude.{ℕ, if◌then◌else◌, List, [], ◌++◌, codes, Option, Some, None}
use Rattle.call_facts.specs.declared.answers.Key.TheVariants as key
use Rattle.call_facts.specs.declared.lpis.LpiState.{LpiState}
use Rattle.its_plain.specs.declared.call.Cause.{Cause}
use Rattle.its_plain.specs.declared.call.Cause.TheVariants as cause
use Rattle.its_plain.specs.declared.call.Signal.{Signal}
use Rattle.its_plain.specs.declared.call.Signal.TheVariants as signal
use Rattle.its_types.specs.declared.ids.Icid.{Icid}
use Rattle.its_types.specs.declared.ids.Vcpu.{Vcpu}
use Rattle.its_types.specs.declared.translation.Event.{Event}
use Rattle.its_explain.specs.Book.{changer}
use Rattle.its_explain.specs.Facts.{event_fact}
use Rattle.its_explain.specs.Numbers.{numbered, by_line, since_line}
use Rattle.its_explain.specs.declared.book.Book.{Book}
use Rattle.its_explain.specs.declared.facts.EventFact.{EventFact}
use Rattle.its_explain.specs.declared.facts.Fact.{Fact}

-- by which line a device, an event or a collection was mapped, or since which it isn't
abbrev pub device_by : Book → EventFact → List ℕ
device_by b f = by_line (changer b f.its (key.Device f.dev))

abbrev pub device_since : Book → EventFact → List ℕ
device_since b f = since_line (changer b f.its (key.Device f.dev))

abbrev pub event_by : Book → EventFact → List ℕ
event_by b f = by_line (changer b f.its (key.Event f.dev f.ev))

abbrev pub event_since : Book → EventFact → List ℕ
event_since b f = since_line (changer b f.its (key.Event f.dev f.ev))

abbrev pub collection_by : Book → EventFact → Icid → List ℕ
collection_by b f icid = by_line (changer b f.its (key.Collection icid))

abbrev pub collection_since : Book → EventFact → Icid → List ℕ
collection_since b f icid = since_line (changer b f.its (key.Collection icid))

-- ---- one that is pending

-- how its LPI stood before
unfoldable pub standing_text : Option LpiState → List ℕ
standing_text None = []
standing_text (Some was) =
    (if was.pending then codes "; it was pending there already" else [])
    ++ (if was.enabled then [] else codes "; it isn't enabled there (bit 0 of its configuration byte, as last read)")

-- the collection of the event, and where that goes
unfoldable pub way_text : Book → EventFact → ℕ → Event → List ℕ
way_text b f vcpu e =
    numbered (codes " of collection ") e.icid.0 ++ event_by b f ++ numbered (codes ", which goes to processor ") vcpu ++ collection_by b f e.icid

abbrev pub way_of : Book → EventFact → ℕ → Option Event → List ℕ
way_of b f vcpu None = []
way_of b f vcpu (Some e) = way_text b f vcpu e

unfoldable pub lpi_text : Book → EventFact → ℕ → ℕ → List ℕ
lpi_text b f vcpu intid = numbered (codes ", event ") f.ev.0 ++ numbered (codes " is LPI ") intid ++ way_of b f vcpu f.before.event

unfoldable pub delivered_text : Book → EventFact → ℕ → ℕ → List ℕ
delivered_text b f vcpu intid =
    numbered (codes "device ") f.dev.0 ++ codes " is mapped" ++ device_by b f ++ lpi_text b f vcpu intid ++ standing_text f.was

-- ---- one that went nowhere

unfoldable pub no_device_text : Book → EventFact → List ℕ
no_device_text b f = numbered (codes "device ") f.dev.0 ++ codes " isn't mapped" ++ device_since b f ++ codes " (section 5.2.3)"

unfoldable pub no_event_text : Book → EventFact → List ℕ
no_event_text b f =
    numbered (codes "event ") f.ev.0 ++ numbered (codes " of device ") f.dev.0 ++ codes " isn't mapped" ++ event_since b f ++ codes " (section 5.2.4)"

unfoldable pub unmapped_text : Book → EventFact → Icid → List ℕ
unmapped_text b f icid = numbered (codes "collection ") icid.0 ++ codes " of the event isn't mapped" ++ collection_since b f icid

-- the collection, if there is an event
abbrev pub collection_text : Book → EventFact → Option Event → List ℕ
collection_text b f None = codes "the collection of the event isn't mapped"
collection_text b f (Some e) = unmapped_text b f e.icid

unfoldable pub no_collection_text : Book → EventFact → List ℕ
no_collection_text b f = collection_text b f f.before.event ++ codes " (section 5.2.5)"

abbrev pub place_text : Option Vcpu → List ℕ
place_text None = codes "LPIs are off at its processor"
place_text (Some vcpu) = numbered (codes "LPIs are off at processor ") vcpu.0

unfoldable pub lpis_off_text : EventFact → List ℕ
lpis_off_text f = place_text f.before.target ++ codes ": EnableLPIs of GICR_CTLR is 0 (section 12.11)"

unfoldable pub dropped_text : Book → EventFact → Cause → List ℕ
dropped_text b f cause.Disabled = codes "the translator isn't enabled: bit 0 of GITS_CTLR is 0 (section 12.19.6)"
dropped_text b f cause.NoDevice = no_device_text b f
dropped_text b f cause.NoEvent = no_event_text b f
dropped_text b f cause.NoCollection = no_collection_text b f
dropped_text b f cause.LpisOff = lpis_off_text f

-- ---- a message

abbrev pub sent_text : Book → EventFact → Signal → List ℕ
sent_text b f (signal.Delivered vcpu intid) = delivered_text b f vcpu.0 intid.0
sent_text b f (signal.Dropped c) = dropped_text b f c

abbrev pub told : Book → Signal → Option EventFact → List ℕ
told b s None = []
told b s (Some f) = sent_text b f s

abbrev pub signal_text : Book → Fact → Signal → List ℕ
signal_text b fact s = told b s (event_fact fact)
