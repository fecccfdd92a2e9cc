-- What commands did to devices and collections, in words.
use Rattle.std.specs.Prelude.{ℕ, ◌-◌, ◌==◌, nat_lt, if◌then◌else◌, List, [], ◌++◌, codes, Option, Some, None}
use Rattle.call_facts.specs.declared.answers.Key.TheVariants as key
use Rattle.its_types.specs.declared.ids.Vcpu.{Vcpu}
use Rattle.its_types.specs.declared.translation.Device.{Device}
use Rattle.its_explain.specs.Book.{changer}
use Rattle.its_explain.specs.Numbers.{numbered, enclosed, in_hexadecimal, by_line, counted}
use Rattle.its_explain.specs.declared.book.Book.{Book}
use Rattle.its_explain.specs.declared.facts.CollectionFact.{CollectionFact}
use Rattle.its_explain.specs.declared.facts.DeviceFact.{DeviceFact}

-- ---- devices

abbrev pub unmapped_text : ℕ → List ℕ
unmapped_text events = if events == 1 then codes " is unmapped" else codes " are unmapped"

abbrev pub device_by : Book → DeviceFact → List ℕ
device_by b f = by_line (changer b f.its (key.Device f.dev))

-- what it lost that was mapped already
unfoldable pub again_text : Book → DeviceFact → List ℕ
again_text b f = codes "; it was mapped" ++ device_by b f ++ codes ", and its " ++ counted f.events (codes "event") ++ unmapped_text f.events

abbrev pub again_if : Book → DeviceFact → Option Device → List ℕ
again_if b f None = []
again_if b f (Some before) = again_text b f

unfoldable pub mapped_text : Book → DeviceFact → Device → List ℕ
mapped_text b f d =
    numbered (codes "device ") f.dev.0 ++ numbered (codes " is mapped, with ") d.bits ++ in_hexadecimal (codes " EventID bits and its table at ") d.itt.0
    ++ again_if b f f.before

abbrev pub absent_text : ℕ → List ℕ
absent_text dev = enclosed (codes "device ") dev (codes " isn't mapped, so nothing changes")

unfoldable pub with_events_text : DeviceFact → List ℕ
with_events_text f = numbered (codes "device ") f.dev.0 ++ codes " and its " ++ counted f.events (codes "event") ++ codes " are unmapped"

abbrev pub gone_text : DeviceFact → Option Device → List ℕ
gone_text f None = absent_text f.dev.0
gone_text f (Some before) = with_events_text f

abbrev pub device_after : Book → DeviceFact → Option Device → List ℕ
device_after b f None = gone_text f f.before
device_after b f (Some d) = mapped_text b f d

abbrev pub device_text : Book → DeviceFact → List ℕ
device_text b f = device_after b f f.after

-- ---- collections

abbrev pub collection_by : Book → CollectionFact → List ℕ
collection_by b f = by_line (changer b f.its (key.Collection f.icid))

abbrev pub named_text : ℕ → List ℕ → List ℕ
named_text icid = enclosed (codes "collection ") icid

unfoldable pub goes_text : ℕ → ℕ → List ℕ
goes_text icid to = numbered (codes "collection ") icid ++ numbered (codes " goes to processor ") to

unfoldable pub already_text : Book → CollectionFact → List ℕ
already_text b f = codes " already," ++ collection_by b f

abbrev pub stays_text : ℕ → List ℕ
stays_text from = enclosed (codes "; what is pending at processor ") from (codes " stays there")

unfoldable pub with_lpis_text : ℕ → List ℕ
with_lpis_text went = codes ", with " ++ counted went (codes "pending LPI")

-- of so many LPIs that were pending where it went, so many went with it
abbrev pub lpis_text : ℕ → ℕ → ℕ → List ℕ
lpis_text from had went = if nat_lt 0 went then with_lpis_text went else (if nat_lt 0 had then stays_text from else [])

unfoldable pub left_text : CollectionFact → ℕ → List ℕ
left_text f from = numbered (codes ", and no more to processor ") from ++ lpis_text from f.had (f.had - f.has)

abbrev pub from_text : Book → CollectionFact → ℕ → ℕ → List ℕ
from_text b f from to = if from == to then already_text b f else left_text f from

unfoldable pub moved_text : Book → CollectionFact → ℕ → ℕ → List ℕ
moved_text b f from to = goes_text f.icid.0 to ++ from_text b f from to

abbrev pub collection_between : Book → CollectionFact → Option Vcpu → Option Vcpu → List ℕ
collection_between b f None None = named_text f.icid.0 (codes " isn't mapped, so nothing changes")
collection_between b f (Some from) None = named_text f.icid.0 (codes " is unmapped")
collection_between b f None (Some to) = goes_text f.icid.0 to.0
collection_between b f (Some from) (Some to) = moved_text b f from.0 to.0

abbrev pub collection_text : Book → CollectionFact → List ℕ
collection_text b f = collection_between b f f.before f.after
