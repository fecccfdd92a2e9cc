-- The registers of a translator (IHI 0069, section 12.19): how each reads, and what a write leaves.
use Rattle.std.specs.Prelude.{◌≡◌, ◌<◌, ◌≤◌, ℕ, ◌+◌, ◌-◌, ◌*◌, ◌%◌, ◌^◌, Bool, true, false, not, ◌&&◌, ◌||◌, ◌==◌, nat_lt, if◌then◌else◌, min, bit_and}
use Rattle.std.specs.Prelude.{bit_or, Result, Ok, Err, refl}
use Rattle.std.specs.Coded.{Coded, code_by, coded×, coded_ℕ, coded_bool}
use Rattle.its_types.specs.Bits.{field, bit_of}
use Rattle.its_types.specs.Halves.{low_half, high_half, with_low_half, with_high_half}
use Rattle.gits_regs.specs.declared.change.RegChange.{RegChange}
use Rattle.gits_regs.specs.declared.change.RegChange.TheVariants as change
use Rattle.gits_regs.specs.declared.values.NotValid.{NotValid}
use Rattle.gits_regs.specs.declared.values.RegValues.{RegValues}
use Rattle.gits_regs.specs.declared.values.Register.{Register}
use Rattle.gits_regs.specs.declared.values.Register.TheVariants as register

-- what the registers hold, and how many bits a DeviceID has
pub record Registers : Type 0 where
  pub dev_bits : ℕ
  pub enabled : Bool
  pub cbaser : ℕ
  pub creadr : ℕ
  pub cwriter : ℕ
  pub baser0 : ℕ
  pub baser1 : ℕ

-- ---- what a write leaves of a value

-- GITS_CBASER (IHI 0069, section 12.19.3): bits 15 to 12 of the address are zero
abbrev pub kept_cbaser : ℕ → ℕ
kept_cbaser value = bit_and value 0xB8EFFFFFFFFF0CFF

-- GITS_CREADR and GITS_CWRITER (sections 12.19.4 and 12.19.5): the offset, in bits 19 to 5
abbrev pub kept_offset : ℕ → ℕ
kept_offset value = bit_and value 0xFFFE0

-- GITS_BASER0 (section 12.19.1): a table of devices, entries of 8 bytes, pages of 64 KiB
abbrev pub kept_baser0 : ℕ → ℕ
kept_baser0 value = bit_or (bit_and value 0xF8E0FFFFFFFFFCFF) 0x0107000000000200

-- GITS_BASER1: a table of collections, never of two levels
abbrev pub kept_baser1 : ℕ → ℕ
kept_baser1 value = bit_or (bit_and value 0xB8E0FFFFFFFFFCFF) 0x0407000000000200

-- ---- fields

-- bit 63 of CBASER or of a BASER
abbrev pub is_valid : ℕ → Bool
is_valid base = bit_of base 63

-- where the command queue begins
abbrev pub queue_base : Registers → ℕ
queue_base r = field r.cbaser 16 36 * 2 ^ 16

-- how many bytes the command queue of a CBASER has
abbrev pub size_of : ℕ → ℕ
size_of cbaser = (field cbaser 0 8 + 1) * 4096

abbrev pub queue_size : Registers → ℕ
queue_size r = size_of r.cbaser

-- where the next command stands
abbrev pub queue_place : Registers → ℕ
queue_place r = queue_base r + r.creadr

-- no command waits
abbrev pub is_queue_empty : Registers → Bool
is_queue_empty r = r.creadr == r.cwriter

-- how many pages a table has
abbrev pub pages : ℕ → ℕ
pages baser = field baser 0 8 + 1

-- where a table begins: with pages of 64 KiB bits 15 to 12 are the address bits 51 to 48
abbrev pub table_base : ℕ → ℕ
table_base baser = field baser 12 4 * 2 ^ 48 + field baser 16 32 * 2 ^ 16

-- whether a table has two levels
abbrev pub is_indirect : ℕ → Bool
is_indirect baser = bit_of baser 62

-- the register of table 0 or 1
abbrev pub baser_of : Registers → ℕ → ℕ
baser_of r table = if table == 0 then r.baser0 else r.baser1

-- how many collections have a place
abbrev pub collection_places : Registers → ℕ
collection_places r = 8192 * min (pages r.baser1) 8

-- the queue and both tables have a valid base
abbrev pub has_bases : Registers → Bool
has_bases r = is_valid r.cbaser && is_valid r.baser0 && is_valid r.baser1

-- ---- the registers that can be reached

-- an offset into the queue that is the place of a command
pub record IsOffset (r : Registers) (offset : ℕ) : Type 0 where
  pub inside : offset < queue_size r
  pub whole : offset % 32 ≡ 0

pub record IsSound (r : Registers) : Type 0 where
  pub least_bits : 16 ≤ r.dev_bits
  pub most_bits : r.dev_bits ≤ 20
  pub cbaser : kept_cbaser r.cbaser ≡ r.cbaser
  pub baser0 : kept_baser0 r.baser0 ≡ r.baser0
  pub baser1 : kept_baser1 r.baser1 ≡ r.baser1
  pub enabled : r.enabled ≡ true → has_bases r ≡ true
  pub creadr : IsOffset r r.creadr
  pub cwriter : IsOffset r r.cwriter

-- nothing was written yet
abbrev pub reset : ℕ → Registers
reset dev_bits = record {
  dev_bits = dev_bits;
  enabled = false;
  cbaser = 0;
  creadr = 0;
  cwriter = 0;
  baser0 = 0x0107000000000200;
  baser1 = 0x0407000000000200;
}

-- ---- reads

-- GITS_TYPER (section 12.19.16): physical LPIs, entries of 8 bytes, EventIDs of 16 bits, the DeviceID bits minus one
abbrev pub typer : ℕ → ℕ
typer dev_bits = (dev_bits - 1) * 8192 + 0xF71

-- GITS_CTLR (section 12.19.6): Enabled, and Quiescent exactly while it is not enabled
abbrev pub ctlr : Registers → ℕ
ctlr r = if r.enabled then 1 else 0x80000000

-- the 32-bit registers: CTLR, IIDR and PIDR2
unfoldable pub read_32 : Registers → ℕ → ℕ
read_32 r off =
    if off == 0x0 then ctlr r
    else (if off == 0x4 then 0x4B00043B
    else (if off == 0xFFE8 then 0x30
    else 0))

-- the 64-bit registers: TYPER, CBASER, CWRITER, CREADR, BASER0 and BASER1
unfoldable pub read_64 : Registers → ℕ → ℕ
read_64 r off =
    if off == 0x8 then typer r.dev_bits
    else (if off == 0x80 then r.cbaser
    else (if off == 0x88 then r.cwriter
    else (if off == 0x90 then r.creadr
    else (if off == 0x100 then r.baser0
    else (if off == 0x108 then r.baser1
    else 0)))))

-- whether a 32-bit register stands at an offset
abbrev pub is_32 : ℕ → Bool
is_32 off = off == 0x0 || off == 0x4 || off == 0xFFE8

-- a read of 4 bytes: a 32-bit register, or half of a 64-bit one, whose lower half stands at its offset and whose upper half at that and 4
unfoldable pub read_word : Registers → ℕ → ℕ
read_word r off =
    if is_32 off then read_32 r off
    else (if off % 8 == 0 then low_half (read_64 r off)
    else (if off % 8 == 4 then high_half (read_64 r (off - 4))
    else 0))

-- a read of so many bytes at an offset: all else reads zero
unfoldable pub read_reg : Registers → ℕ → ℕ → ℕ
read_reg r off size =
    if size == 8 then read_64 r off
    else (if size == 4 then read_word r off
    else 0)

-- ---- writes

-- what a write leaves, and what it changed
pub record Written : Type 0 where
  pub regs : Registers
  pub change : RegChange

-- an ignored write
abbrev pub unchanged : Registers → Written
unchanged r = record { regs = r; change = change.None }

-- a write of CTLR: it can be enabled only with all bases valid
unfoldable pub write_ctlr : Registers → ℕ → Written
write_ctlr r value =
    if bit_of value 0
    then (if not r.enabled && has_bases r then record { regs = record r { enabled = true }; change = change.Enabled } else unchanged r)
    else (if r.enabled then record { regs = record r { enabled = false }; change = change.Disabled } else unchanged r)

-- whether a write of CBASER changes no register
abbrev pub is_same_queue : Registers → ℕ → Bool
is_same_queue r base = r.cbaser == base && r.creadr == 0 && r.cwriter == 0

-- a write of CBASER, ignored while enabled: the queue starts again
unfoldable pub write_cbaser : Registers → ℕ → Written
write_cbaser r value =
    if r.enabled then unchanged r
    else (if is_same_queue r (kept_cbaser value) then unchanged r
    else record { regs = record r { cbaser = kept_cbaser value; creadr = 0; cwriter = 0 }; change = change.Other })

-- a write of CWRITER, ignored at or past the queue's size
unfoldable pub write_cwriter : Registers → ℕ → Written
write_cwriter r value =
    if nat_lt (kept_offset value) (queue_size r) && not (r.cwriter == kept_offset value)
    then record { regs = record r { cwriter = kept_offset value }; change = change.Other }
    else unchanged r

-- a write of BASER0, ignored while enabled: it empties the devices
unfoldable pub write_baser0 : Registers → ℕ → Written
write_baser0 r value =
    if r.enabled then unchanged r
    else record { regs = record r { baser0 = kept_baser0 value }; change = change.DevicesEmptied }

-- a write of BASER1, ignored while enabled: it empties the collections
unfoldable pub write_baser1 : Registers → ℕ → Written
write_baser1 r value =
    if r.enabled then unchanged r
    else record { regs = record r { baser1 = kept_baser1 value }; change = change.CollectionsEmptied }

-- a write of a whole 64-bit register; TYPER, CREADR and all others are read only
unfoldable pub write_64 : Registers → ℕ → ℕ → Written
write_64 r off value =
    if off == 0x80 then write_cbaser r value
    else (if off == 0x88 then write_cwriter r value
    else (if off == 0x100 then write_baser0 r value
    else (if off == 0x108 then write_baser1 r value
    else unchanged r)))

-- a write of 4 bytes: CTLR, or a 64-bit register with its other half as it reads
unfoldable pub write_word : Registers → ℕ → ℕ → Written
write_word r off value =
    if is_32 off then (if off == 0x0 then write_ctlr r value else unchanged r)
    else (if off % 8 == 0 then write_64 r off (with_low_half (read_64 r off) value)
    else (if off % 8 == 4 then write_64 r (off - 4) (with_high_half (read_64 r (off - 4)) value)
    else unchanged r))

-- a write of so many bytes at an offset, of which 4 take the low 32 bits of the value
unfoldable pub write_reg : Registers → ℕ → ℕ → ℕ → Written
write_reg r off size value =
    if size == 8 then write_64 r off value
    else (if size == 4 then write_word r off (low_half value)
    else unchanged r)

-- CREADR goes on by one command, and from the queue's end to its beginning
abbrev pub advanced : Registers → Registers
advanced r = record r { creadr = if r.creadr + 32 == queue_size r then 0 else r.creadr + 32 }

-- ---- restore

infixl 10 ◌>>=◌
abbrev pub ◌>>=◌ : {A B : Type 0} → Result A NotValid → (A → Result B NotValid) → Result B NotValid
(Ok x) >>= f = f x
(Err e) >>= f = Err e

-- the register at fault, unless the test holds
abbrev pub ensure : Bool → Register → Result (Unit {0}) NotValid
ensure test r = if test then Ok tt else Err (record { 0 = r })

-- the values as writes leave them, with Enabled as bit 0 of CTLR says
abbrev pub masked : RegValues → ℕ → Registers
masked values dev_bits = record {
  dev_bits = dev_bits;
  enabled = bit_of values.ctlr 0;
  cbaser = kept_cbaser values.cbaser;
  creadr = kept_offset values.creadr;
  cwriter = kept_offset values.cwriter;
  baser0 = kept_baser0 values.baser0;
  baser1 = kept_baser1 values.baser1;
}

-- a base that is not valid stands only while the translator is not enabled
abbrev pub base_allowed : Bool → ℕ → Bool
base_allowed enabled base = not enabled || is_valid base

-- the registers that saved values give (Linux, arm-vgic-its: "ITS Restore Sequence"), or the first that isn't allowed beside the others
unfoldable pub restored : RegValues → ℕ → Result Registers NotValid
restored values dev_bits =
    let r = masked values dev_bits in do
      _ ← ensure (base_allowed r.enabled r.cbaser) register.Cbaser
      _ ← ensure (nat_lt r.creadr (queue_size r)) register.Creadr
      _ ← ensure (nat_lt r.cwriter (queue_size r)) register.Cwriter
      _ ← ensure (base_allowed r.enabled r.baser0) register.Baser0
      _ ← ensure (base_allowed r.enabled r.baser1) register.Baser1
      Ok r

-- ---- a code, by which models tell registers apart

abbrev Parts : Type 0
Parts = ((ℕ × Bool) × (ℕ × ℕ)) × ((ℕ × ℕ) × ℕ)

abbrev coded_parts : Coded Parts
coded_parts = coded× (coded× (coded× coded_ℕ coded_bool) (coded× coded_ℕ coded_ℕ)) (coded× (coded× coded_ℕ coded_ℕ) coded_ℕ)

abbrev pub registers_code : Coded Registers
registers_code =
    code_by Parts coded_parts
    (λ r. (((r.dev_bits, r.enabled), (r.cbaser, r.creadr)), ((r.cwriter, r.baser0), r.baser1)))
    (λ p. record { dev_bits = p.0.0.0; enabled = p.0.0.1; cbaser = p.0.1.0; creadr = p.0.1.1; cwriter = p.1.0.0; baser0 = p.1.0.1; baser1 = p.1.1 })
    (λ _. refl)
