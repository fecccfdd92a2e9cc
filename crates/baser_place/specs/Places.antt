-- Where a device's table entry stands in memory (IHI 0069, section 12.19.1: flat and two-level tables of GITS_BASER).
use Rattle.std.specs.Prelude.{ℕ, ◌<◌, ◌+◌, ◌-◌, ◌*◌, ◌/◌, ◌%◌, ◌^◌, Bool, nat_lt, if◌then◌else◌, List, Option, Some, None}
use Rattle.its_types.specs.Bits.{field, bit_of}
use Rattle.its_types.specs.Ranges.{is_device_id}
use Rattle.guest_windows.specs.Windows.{Window, inside, number_at}
use Rattle.gits_regs.specs.Registers.{Registers, is_valid, is_indirect, pages, table_base}
use Rattle.baser_place.specs.declared.entry.Level1.{Level1}
use Rattle.baser_place.specs.declared.entry.Level1.TheVariants.{Outside, Empty, Page}

infixl 10 ◌>>=◌
abbrev pub ◌>>=◌ : {A B : Type 0} → Option A → (A → Option B) → Option B
None >>= f = None
(Some x) >>= f = f x

abbrev pub ensure : Bool → Option (Unit {0})
ensure test = if test then Some tt else None

-- ---- flat tables

-- an entry is eight bytes
abbrev pub entry_address : ℕ → ℕ → ℕ
entry_address base index = base + 8 * index

-- how many places the pages of a flat device table have
abbrev pub flat_places : Registers → ℕ
flat_places r = 8192 * pages r.baser0

unfoldable pub flat_place : Registers → ℕ → Option ℕ
flat_place r dev = do
  _ ← ensure (nat_lt dev (flat_places r))
  Some (entry_address (table_base r.baser0) dev)

-- ---- two levels: a level-1 entry for each 8192 devices, with bit 63 Valid and a page's address in bits 51 to 16

-- how many level-1 entries the DeviceIDs need
abbrev pub level1_entries : ℕ → ℕ
level1_entries dev_bits = 2 ^ (dev_bits - 13)

abbrev pub level1_address : Registers → ℕ → ℕ
level1_address r k = entry_address (table_base r.baser0) k

abbrev pub page_address : ℕ → ℕ
page_address word = field word 16 36 * 2 ^ 16

-- what a level-1 entry says
abbrev pub level1_word : ℕ → Option ℕ → Level1
level1_word address None = Outside (record { 0 = address })
level1_word address (Some word) = if bit_of word 63 then Page (record { 0 = page_address word }) else Empty

unfoldable pub level1_of : Registers → List Window → ℕ → Level1
level1_of r memory k = level1_word (level1_address r k) (number_at memory (level1_address r k))

-- a page lies below 2 ^ 52
abbrev pub HasLowPage : Level1 → Type 0
HasLowPage (Page address) = address.0 < 2 ^ 52
HasLowPage Empty = Unit {0}
HasLowPage (Outside address) = Unit {0}

abbrev pub page_of : Level1 → Option ℕ
page_of (Page address) = Some address.0
page_of Empty = None
page_of (Outside address) = None

unfoldable pub paged_place : Registers → List Window → ℕ → Option ℕ
paged_place r memory dev = do
  page ← page_of (level1_of r memory (dev / 8192))
  Some (entry_address page (dev % 8192))

-- ---- both

-- the place of a device's entry: none where the table isn't valid, the DeviceID is out of range, or an entry on the way
-- isn't valid or isn't in one window
unfoldable pub device_place : Registers → List Window → ℕ → Option ℕ
device_place r memory dev = do
  _ ← ensure (is_valid r.baser0)
  _ ← ensure (is_device_id r.dev_bits dev)
  place ← (if is_indirect r.baser0 then paged_place r memory dev else flat_place r dev)
  _ ← ensure (inside memory place 8)
  Some place
