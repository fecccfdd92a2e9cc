-- The tables that a save writes, each kind from what decides it.
use Rattle.std.specs.Prelude.{◌≡◌, ℕ, zero, suc, ◌+◌, ◌*◌, ◌^◌, ◌<◌, ◌≤◌, List, [], ◌∷◌, ◌++◌, length, slice_index_or, Option, Some, None}
use Rattle.std.specs.List.{flat_map}
use Rattle.std.specs.Option.{option_map}
use Rattle.guest_windows.specs.Windows.{Window}
use Rattle.gits_regs.specs.Registers.{Registers}
use Rattle.baser_place.specs.Places.{level1_of, level1_entries, page_of}
use Rattle.its_types.specs.declared.ids.Addr.{Addr}
use Rattle.its_types.specs.declared.translation.Device.{Device}
use Rattle.std.specs.FinMap.{entries}
use Rattle.its_plain.specs.Saved.{Words, device_words, collection_words}
use Rattle.table_save.specs.Pass.{device_entry_word, event_entry_word}
use Rattle.table_entries.specs.Words.{packed_collection}
use Rattle.its_types.specs.Maps.{events_at}
use Rattle.its_types.specs.Maps.{Maps}
use Rattle.its_types.specs.declared.ids.Icid.{Icid}
use Rattle.its_types.specs.declared.machine.Shape.{Shape}

-- ---- a device table of two levels

abbrev pub page_at : List (Option Addr) → ℕ → Option Addr
page_at pages k = slice_index_or pages k None

abbrev pub address_of : Addr → ℕ
address_of a = a.0

-- each page lies below 2 ^ 52
abbrev pub AreLowPages : List (Option Addr) → Type 0
AreLowPages pages = (k : ℕ) (a : Addr) → page_at pages k ≡ Some a → a.0 < 2 ^ 52

-- the pages of all level-1 entries
pub record ArePages (r : Registers) (memory : List Window) (pages : List (Option Addr)) : Type 0 where
  pub count : length pages ≡ level1_entries r.dev_bits
  pub few : length pages ≤ 128
  pub each : (k : ℕ) → k < length pages → option_map address_of (page_at pages k) ≡ page_of (level1_of r memory k)
  pub low : AreLowPages pages

-- those of the first n level-1 entries, in an array that has places to spare
pub record AreFirstPages (r : Registers) (memory : List Window) (n : ℕ) (pages : List (Option Addr)) : Type 0 where
  pub places : length pages ≡ 128
  pub each : (k : ℕ) → k < n → option_map address_of (page_at pages k) ≡ page_of (level1_of r memory k)
  pub low : AreLowPages pages

-- a page of n places, of which the first is that of a DeviceID
abbrev pub page_table : List (ℕ × Device) → ℕ → ℕ → Option Addr → List Words
page_table devices first n None = []
page_table devices first n (Some base) = record { base = base.0; count = n; word = λ i. device_entry_word devices (first + i) } ∷ []

-- the first k pages, of n places each
abbrev pub page_tables : List (ℕ × Device) → ℕ → List (Option Addr) → ℕ → List Words
page_tables devices n pages zero = []
page_tables devices n pages (suc k) = page_tables devices n pages k ++ page_table devices (n * k) n (page_at pages k)

-- ---- interrupt translation tables

-- those of some devices
abbrev pub itt_tables : Maps → List (ℕ × Device) → List Words
itt_tables m devices = flat_map (λ d. record { base = d.1.itt.0; count = 2 ^ d.1.bits; word = event_entry_word (events_at m d.0) } ∷ []) devices

-- ---- collections

-- of a collection and the number of its processor, if there is one
abbrev pub collection_entry : Option (Icid × ℕ) → ℕ
collection_entry None = 0
collection_entry (Some c) = packed_collection (record { vcpu_number = c.1; icid = c.0.0 })

-- ---- all of a translator

abbrev pub translator_tables : Shape → List Window → Registers → Maps → List Words
translator_tables s memory r m =
    device_words (record { regs = r; maps = m }) memory ++ collection_words s (record { regs = r; maps = m }) ++ itt_tables m (entries m.devices)
