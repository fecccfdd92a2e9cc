-- What a save writes (KVM document arm-vgic-its, "ITS Table ABI REV0"), and the machine that a migration goes on with.
use Rattle.std.specs.Prelude.{◌≡◌, ℕ, Bool, suc, zero, ◌+◌, ◌-◌, ◌*◌, ◌/◌, ◌^◌, not, ◌&&◌, ◌==◌, nat_lt, if◌then◌else◌, min, List, [], ◌∷◌, ◌++◌, map, find}
use Rattle.std.specs.Prelude.{Option}
use Rattle.std.specs.Prelude.{Some, None, unwrap_or, slice_get, Ok}
use Rattle.std.specs.Option.{option_map}
use Rattle.std.specs.List.{flat_map}
use Rattle.std.specs.FinMap.{FinMap, entries, keys, insert, contains_key}
use Rattle.std.specs.Ordering.{nat_cmp}
use Rattle.byteorder.specs.Endian.{little_number, little_bytes}
use Rattle.guest_windows.specs.Windows.{Window, write_at, extent}
use Rattle.dirty_log.specs.Copies.{untouched, wrote}
use Rattle.dirty_log.specs.Pages.{dirty_count}
use Rattle.dirty_log.specs.declared.tracked.Tracked.{Tracked}
pub use Rattle.gicr_regs.specs.Redistributors.{reloaded}
use Rattle.gits_regs.specs.Registers.{Registers, is_valid, is_indirect, table_base, collection_places}
use Rattle.baser_place.specs.Places.{level1_entries, level1_of, page_of, entry_address}
use Rattle.table_entries.specs.Words.{packed_device, packed_collection, packed_event}
use Rattle.its_types.specs.Lpis.{pending_byte}
use Rattle.its_types.specs.Maps.{Maps, device_of, event_of}
use Rattle.its_types.specs.Ranges.{pending_bytes}
use Rattle.its_types.specs.declared.ids.Vcpu.{Vcpu}
use Rattle.its_types.specs.declared.machine.Shape.{Shape}
use Rattle.its_types.specs.declared.translation.Bases.{Bases}
use Rattle.its_types.specs.declared.translation.Device.{Device}
use Rattle.its_types.specs.declared.translation.Event.{Event}
use Rattle.its_plain.specs.Plain.{Plain, Translator, Redistributor}
use Rattle.its_plain.specs.Regions.{device_pages, collection_pages, savable}

-- ---- words

-- a table to write: so many words of eight bytes from an address on
pub record Words : Type 0 where
  pub base : ℕ
  pub count : ℕ
  pub word : ℕ → ℕ

abbrev pub put_word : List Window → ℕ → ℕ → List Window
put_word memory address word = unwrap_or (write_at memory address (little_bytes 8 word)) memory

-- the first n words of a table
abbrev pub put_words : List Window → ℕ → (ℕ → ℕ) → ℕ → List Window
put_words memory base word zero = memory
put_words memory base word (suc n) = put_word (put_words memory base word n) (entry_address base n) (word n)

-- the pages of each table are dirty
abbrev pub wrote_tables : List Words → Tracked → Tracked
wrote_tables [] t = t
wrote_tables (w ∷ ws) t = wrote_tables ws (wrote w.base (8 * w.count) t)

abbrev pub put_tables : List Window → List Words → List Window
put_tables memory [] = memory
put_tables memory (t ∷ ts) = put_tables (put_words memory t.base t.word t.count) ts

-- ---- entries

-- how far the next one is, at most the cap; 0 where there is none
abbrev pub distance : ℕ → ℕ → Option ℕ → ℕ
distance cap id None = 0
distance cap id (Some next) = min (next - id) cap

-- the next mapped device
abbrev pub device_after : Maps → ℕ → Option ℕ
device_after m dev = find (λ d. nat_lt dev d) (keys m.devices)

-- the entry of a device, if it is mapped, where this one is mapped next; or zero
abbrev pub device_entry : ℕ → Option Device → Option ℕ → ℕ
device_entry dev None next = 0
device_entry dev (Some d) next = packed_device (record { next = distance 16383 dev next; itt = d.itt.0; bits = d.bits })

unfoldable pub device_word : Maps → ℕ → ℕ
device_word m dev = device_entry dev (device_of m dev) (device_after m dev)

-- no processor has this number: it stands in the entry of a collection that events name and that isn't mapped
abbrev pub never_mapped : Vcpu
never_mapped = record { 0 = 0xFFFFFFFF }

-- a collection that has no entry yet, and a place in the table
abbrev pub is_awaited : Registers → FinMap nat_cmp Vcpu → ℕ → Bool
is_awaited r collections icid = nat_lt icid (collection_places r) && not (contains_key collections icid)

-- collections, and beside them those that events name
abbrev pub with_named : Registers → FinMap nat_cmp Vcpu → List ((ℕ × ℕ) × Event) → FinMap nat_cmp Vcpu
with_named r collections [] = collections
with_named r collections (e ∷ es) =
    let rest : FinMap nat_cmp Vcpu = with_named r collections es in
    if is_awaited r rest e.1.icid.0 then insert rest e.1.icid.0 never_mapped else rest

-- the collections that have entries: the mapped ones, and, where the shape says so, those that mapped events name
unfoldable pub saved_collections : Shape → Translator → FinMap nat_cmp Vcpu
saved_collections s t = if s.linux then with_named t.regs t.maps.collections (entries t.maps.events) else t.maps.collections

abbrev pub collection_entry : Option (ℕ × Vcpu) → ℕ
collection_entry None = 0
collection_entry (Some c) = packed_collection (record { vcpu_number = c.1.0; icid = c.0 })

-- the collections in rising order, then zeros
unfoldable pub collection_word : Shape → Translator → ℕ → ℕ
collection_word s t i = collection_entry (slice_get (entries (saved_collections s t)) i)

-- the next mapped event of a device
abbrev pub event_after : Maps → ℕ → ℕ → Option ℕ
event_after m dev ev = option_map (λ k. k.1) (find (λ k. k.0 == dev && nat_lt ev k.1) (keys m.events))

-- the entry of an event, if it is mapped, where this one is mapped next of the device's; or zero
abbrev pub event_entry : ℕ → Option Event → Option ℕ → ℕ
event_entry ev None next = 0
event_entry ev (Some e) next = packed_event (record { next = distance 65535 ev next; intid = e.intid.0; icid = e.icid.0 })

unfoldable pub event_word : Maps → ℕ → ℕ → ℕ
event_word m dev ev = event_entry ev (event_of m dev ev) (event_after m dev ev)

-- eight bytes of a pending table, the first of which is byte n
unfoldable pub pending_word : List ℕ → ℕ → ℕ
pending_word pending n =
    little_number 8 (pending_byte n pending ∷ pending_byte (n + 1) pending ∷ pending_byte (n + 2) pending ∷ pending_byte (n + 3) pending
    ∷ pending_byte (n + 4) pending ∷ pending_byte (n + 5) pending ∷ pending_byte (n + 6) pending ∷ pending_byte (n + 7) pending ∷ [])

-- ---- tables

-- a page of so many entries
abbrev pub words_of_page : ℕ → Maps → ℕ → Option ℕ → List Words
words_of_page count m k None = []
words_of_page count m k (Some base) = record { base = base; count = count; word = λ i. device_word m (8192 * k + i) } ∷ []

abbrev pub page_words : Maps → ℕ → Option ℕ → List Words
page_words = words_of_page 8192

-- the pages of the first n level-1 entries
abbrev pub pages_words : Translator → List Window → ℕ → List Words
pages_words t memory zero = []
pages_words t memory (suc n) = pages_words t memory n ++ page_words t.maps n (page_of (level1_of t.regs memory n))

unfoldable pub device_words : Translator → List Window → List Words
device_words t memory =
    if not (is_valid t.regs.baser0) then []
    else (if is_indirect t.regs.baser0 then pages_words t memory (level1_entries t.regs.dev_bits)
    else record { base = table_base t.regs.baser0; count = 8192 * device_pages t.regs; word = device_word t.maps } ∷ [])

abbrev pub collection_words : Shape → Translator → List Words
collection_words s t =
    if is_valid t.regs.baser1 then record { base = table_base t.regs.baser1; count = 8192 * collection_pages t.regs; word = collection_word s t } ∷ []
    else []

abbrev pub itt_words : Maps → List Words
itt_words m = flat_map (λ d. record { base = d.1.itt.0; count = 2 ^ d.1.bits; word = event_word m d.0 } ∷ []) (entries m.devices)

unfoldable pub translator_words : Shape → List Window → Translator → List Words
translator_words s memory t = device_words t memory ++ collection_words s t ++ itt_words t.maps

-- a pending table but for the 1024 bytes that belong to no LPI, of each redistributor whose LPIs are on
abbrev pub pending_words : Shape → Redistributor → List Words
pending_words s r =
    if r.bases.on then record {
      base = r.bases.pend.table.0 + 1024;
      count = (pending_bytes s.lpi_bits - 1024) / 8;
      word = λ i. pending_word r.pending (1024 + 8 * i);
    } ∷ []
    else []

unfoldable pub words_of : Plain → List Words
words_of u = flat_map (translator_words u.layout.shape u.memory) u.translators ++ flat_map (pending_words u.layout.shape) u.redistributors

-- memory with every entry of every table that is written, and no other byte changed
abbrev pub saved : Plain → List Window
saved u = put_tables u.memory (words_of u)

-- ---- migrations

abbrev pub IsSavable : Plain → Type 0
IsSavable u = savable u ≡ Ok tt

-- a copy of zeros, and every page dirty, where there is a copy
abbrev pub track_of : Bool → List Window → Option Tracked
track_of tracks memory = if tracks then Some (untouched (map extent memory)) else None

-- the state that a migration goes on from
unfoldable pub moved : Plain → Plain
moved u = record u {
  memory = saved u;
  redistributors = map (reloaded u.layout.shape (saved u)) u.redistributors;
  track = track_of u.layout.track (saved u);
}

-- how many pages a migration copies while the machine is at rest: the dirty ones, and those of the tables that it saves
abbrev pub moved_count : Plain → ℕ
moved_count u = elim u.track [ None ↦ 0 | Some t ↦ dirty_count (wrote_tables (words_of u) t).log ]

abbrev pub bases_and_pending : Redistributor → Bases × List ℕ
bases_and_pending r = (r.bases, r.pending)

-- two machines that answer alike from then on, but for what memory and configurations have
pub record AreEqual (u w : Plain) : Type 0 where
  pub layout : u.layout ≡ w.layout
  pub translators : u.translators ≡ w.translators
  pub redistributors : map bases_and_pending u.redistributors ≡ map bases_and_pending w.redistributors
