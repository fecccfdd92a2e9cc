-- The LPI registers of a redistributor (IHI 0069, section 12.11): how each reads, and what a write does.
use Rattle.std.specs.Prelude.{◌≡◌, ◌<◌, ℕ, ◌+◌, ◌*◌, ◌%◌, ◌^◌, Bool, true, false, ◌||◌, ◌==◌, if◌then◌else◌, List, map, take}
use Rattle.guest_windows.specs.Windows.{Window}
use Rattle.its_types.specs.Bits.{field, bit_of, bit}
use Rattle.its_types.specs.Halves.{low_half, high_half, with_low_half, with_high_half}
use Rattle.its_types.specs.Ranges.{is_lpi}
use Rattle.its_types.specs.declared.machine.Shape.{Shape}
use Rattle.its_types.specs.declared.translation.Bases.{Bases}
use Rattle.its_types.specs.declared.translation.Propbaser.{Propbaser}
use Rattle.its_types.specs.declared.translation.Pendbaser.{Pendbaser}
use Rattle.gicr_regs.specs.Redistributors.{Redistributor, ConfState, conf_of, with_conf, has_tables, off_redistributor, pending_in, config_in, reread_at}
unfoldable use Rattle.gicr_regs.specs.Redistributors.{conf_reread_at}
use Rattle.gicr_regs.specs.Redistributors.{reloaded, conf_reloaded}
use Rattle.gicr_regs.specs.declared.values.GicrRegisters.{GicrRegisters}
use Rattle.gicr_regs.specs.declared.values.GicrValues.{GicrValues}
use Rattle.gicr_regs.specs.declared.write.GicrWrite.{GicrWrite}
use Rattle.gicr_regs.specs.declared.write.GicrWrite.TheVariants as writes

-- ---- what a write leaves of a value

-- GICR_PROPBASER: the address in bits 51 to 12, IDbits in bits 4 to 0
abbrev pub kept_propbaser : ℕ → Propbaser
kept_propbaser value = record { table = record { 0 = field value 12 40 * 4096 }; id_bits = field value 0 5 }

-- GICR_PENDBASER: the address in bits 51 to 16, Pending Table Zero in bit 62
abbrev pub kept_pendbaser : ℕ → Pendbaser
kept_pendbaser value = record { table = record { 0 = field value 16 36 * 65536 }; ptz = bit_of value 62 }

-- ---- how they read

abbrev pub propbaser_value : Propbaser → ℕ
propbaser_value p = p.table.0 + p.id_bits

-- Pending Table Zero reads zero
abbrev pub pendbaser_value : Pendbaser → ℕ
pendbaser_value p = p.table.0

-- What a read has for a Linux guest: in GICR_CTLR bit 1 (CES), since LPIs can be turned off, and bit 2 (IR), since GICR_INVLPIR and GICR_INVALLR are
-- there; and in both bases bits 11 to 7, Inner Shareable and write-back
abbrev pub shown_ctlr : Bool → ℕ
shown_ctlr linux = if linux then 0x6 else 0

abbrev pub shown_base : Bool → ℕ
shown_base linux = if linux then 0x780 else 0

-- of 4 bytes: GICR_CTLR, or a half of a base
unfoldable pub read_word : Bool → Bases → ℕ → ℕ
read_word linux b off =
    if off == 0x0 then bit b.on + shown_ctlr linux
    else (if off == 0x70 then low_half (propbaser_value b.prop + shown_base linux)
    else (if off == 0x74 then high_half (propbaser_value b.prop + shown_base linux)
    else (if off == 0x78 then low_half (pendbaser_value b.pend + shown_base linux)
    else (if off == 0x7C then high_half (pendbaser_value b.pend + shown_base linux)
    else 0))))

-- of 8 bytes: GICR_PROPBASER or GICR_PENDBASER
unfoldable pub read_64 : Bool → Bases → ℕ → ℕ
read_64 linux b off = if off == 0x70 then propbaser_value b.prop + shown_base linux else (if off == 0x78 then pendbaser_value b.pend + shown_base linux else 0)

-- a read of so many bytes at an offset: all else reads zero
unfoldable pub read_gicr : Bool → Bases → ℕ → ℕ → ℕ
read_gicr linux b off size = if size == 8 then read_64 linux b off else (if size == 4 then read_word linux b off else 0)

-- ---- what a write asks for

-- GICR_CTLR: LPIs are to be on, or off
abbrev pub asked_by_ctlr : Bases → ℕ → GicrWrite
asked_by_ctlr b value = if bit_of value 0 then (if b.on then writes.Ignored else writes.Enable) else (if b.on then writes.Disable else writes.Ignored)

-- the bases are written while LPIs are off
abbrev pub with_prop : Bases → Propbaser → GicrWrite
with_prop b prop = if b.on then writes.Ignored else writes.SetBases (record b { prop = prop })

abbrev pub with_pend : Bases → Pendbaser → GicrWrite
with_pend b pend = if b.on then writes.Ignored else writes.SetBases (record b { pend = pend })

-- a write of half of GICR_PENDBASER keeps Pending Table Zero as it was stored
abbrev pub half_pendbaser : Pendbaser → ℕ → Pendbaser
half_pendbaser p whole = record (kept_pendbaser whole) { ptz = p.ptz }

-- a write of 4 bytes. The upper half of GICR_INVLPIR alone names INTID 0, which is no LPI
unfoldable pub asked_by_word : Bases → ℕ → ℕ → GicrWrite
asked_by_word b off value =
    if off == 0x0 then asked_by_ctlr b value
    else (if off == 0x70 then with_prop b (kept_propbaser (with_low_half (propbaser_value b.prop) value))
    else (if off == 0x74 then with_prop b (kept_propbaser (with_high_half (propbaser_value b.prop) value))
    else (if off == 0x78 then with_pend b (half_pendbaser b.pend (with_low_half (pendbaser_value b.pend) value))
    else (if off == 0x7C then with_pend b (half_pendbaser b.pend (with_high_half (pendbaser_value b.pend) value))
    else (if off == 0xA0 then writes.Reread (record { 0 = value })
    else (if off == 0xB0 || off == 0xB4 then writes.RereadAll
    else writes.Ignored))))))

-- a write of 8 bytes
unfoldable pub asked_by_64 : Bases → ℕ → ℕ → GicrWrite
asked_by_64 b off value =
    if off == 0x70 then with_prop b (kept_propbaser value)
    else (if off == 0x78 then with_pend b (kept_pendbaser value)
    else (if off == 0xA0 then writes.Reread (record { 0 = low_half value })
    else (if off == 0xB0 then writes.RereadAll
    else writes.Ignored)))

-- a write of so many bytes at an offset, of which 4 take the low 32 bits of the value
unfoldable pub asked_by : Bases → ℕ → ℕ → ℕ → GicrWrite
asked_by b off size value = if size == 8 then asked_by_64 b off value else (if size == 4 then asked_by_word b off (low_half value) else writes.Ignored)

-- ---- which bases there can be

-- both tables stand below 2^52
pub record AreLow (b : Bases) : Type 0 where
  pub prop : b.prop.table.0 < 2 ^ 52
  pub pend : b.pend.table.0 < 2 ^ 52

-- the registers have kept bits alone
pub record AreKept (b : Bases) : Type 0 where
  pub prop_whole : b.prop.table.0 % 4096 ≡ 0
  pub prop_low : b.prop.table.0 < 2 ^ 52
  pub id_bits : b.prop.id_bits < 32
  pub pend_whole : b.pend.table.0 % 65536 ≡ 0
  pub pend_low : b.pend.table.0 < 2 ^ 52

-- it holds of the bases that are written
abbrev pub Sets : (Bases → Type 0) → GicrWrite → Type 0
Sets P (writes.SetBases b) = P b
Sets P writes.Ignored = Unit {0}
Sets P writes.Enable = Unit {0}
Sets P writes.Disable = Unit {0}
Sets P (writes.Reread intid) = Unit {0}
Sets P writes.RereadAll = Unit {0}

-- ---- what a write does

-- it turns LPIs on or off, so it changes what is pending too
abbrev pub changes_pending : GicrWrite → Bool
changes_pending writes.Enable = true
changes_pending writes.Disable = true
changes_pending writes.Ignored = false
changes_pending (writes.SetBases b) = false
changes_pending (writes.Reread intid) = false
changes_pending writes.RereadAll = false

-- it reads the redistributor's tables
abbrev pub reads_tables : GicrWrite → Bool
reads_tables writes.Enable = true
reads_tables (writes.Reread intid) = true
reads_tables writes.RereadAll = true
reads_tables writes.Ignored = false
reads_tables (writes.SetBases b) = false
reads_tables writes.Disable = false

-- LPIs are on: the configuration is read, and the pending bits where Pending Table Zero isn't set
unfoldable pub turned_on : Shape → List Window → Redistributor → Redistributor
turned_on s memory r = record {
  bases = record r.bases { on = true };
  pending = if r.bases.pend.ptz then r.pending else pending_in s.lpi_bits memory r.bases.pend.table.0;
  accepts = true;
  config = config_in s memory (conf_of r);
}

-- LPIs are off: none is pending, and the bases stay and can be written
abbrev pub turned_off : Shape → Redistributor → Redistributor
turned_off s r = off_redistributor s (record r.bases { on = false })

-- what a write does that changes nothing of what is pending
unfoldable pub conf_done_by : Shape → List Window → GicrWrite → ConfState → ConfState
conf_done_by s memory (writes.SetBases b) c = record c { bases = b }
conf_done_by s memory (writes.Reread intid) c = if is_lpi s.lpi_bits intid.0 then conf_reread_at memory intid.0 c else c
conf_done_by s memory writes.RereadAll c = conf_reloaded s memory c
conf_done_by s memory writes.Ignored c = c
conf_done_by s memory writes.Enable c = c
conf_done_by s memory writes.Disable c = c

unfoldable pub done_by : Shape → List Window → GicrWrite → Redistributor → Redistributor
done_by s memory writes.Ignored r = r
done_by s memory (writes.SetBases b) r = record r { bases = b }
done_by s memory writes.Enable r = if has_tables s memory r.bases then turned_on s memory r else r
done_by s memory writes.Disable r = if s.linux then turned_off s r else r
done_by s memory (writes.Reread intid) r = if is_lpi s.lpi_bits intid.0 then reread_at memory intid.0 r else r
done_by s memory writes.RereadAll r = reloaded s memory r

unfoldable pub written_gicr : Shape → List Window → Redistributor → ℕ → ℕ → ℕ → Redistributor
written_gicr s memory r off size value = done_by s memory (asked_by r.bases off size value) r

-- ---- values to restore (KVM document arm-vgic-its, "ITS Restore Sequence": the redistributors first)

-- LPIs are on where bit 0 of CTLR says so, and the bases are as writes leave them
abbrev pub restored_bases : GicrRegisters → Bases
restored_bases v = record { on = bit_of v.ctlr 0; prop = kept_propbaser v.propbaser; pend = kept_pendbaser v.pendbaser }

-- those of the first virtual processors
abbrev pub all_restored_bases : ℕ → GicrValues → List Bases
all_restored_bases vcpus values = map restored_bases (take vcpus values.registers)

-- the values that a restore takes back
abbrev pub stored_pendbaser : Pendbaser → ℕ
stored_pendbaser p = p.table.0 + bit p.ptz * 2 ^ 62

abbrev pub values_of : Bases → GicrRegisters
values_of b = record { ctlr = bit b.on; propbaser = propbaser_value b.prop; pendbaser = stored_pendbaser b.pend }

-- ---- what is claimed

-- a write leaves kept bits alone
abbrev pub WritesKeepBits : Type 0
WritesKeepBits = (b : Bases) (off size value : ℕ) → AreKept b → Sets AreKept (asked_by b off size value)

-- so do values that are restored
abbrev pub RestoresKeepBits : Type 0
RestoresKeepBits = (v : GicrRegisters) → AreKept (restored_bases v)

-- a write that turns LPIs neither on nor off changes the registers and the configuration alone, and goes by them alone
abbrev pub WritesSplit : Type 0
WritesSplit = (s : Shape) (memory : List Window) (w : GicrWrite) (r : Redistributor) → changes_pending w ≡ false
    → done_by s memory w r ≡ with_conf (conf_done_by s memory w (conf_of r)) r

-- one that doesn't read the tables does the same whatever memory has
abbrev pub WritesLookAway : Type 0
WritesLookAway = (s : Shape) (memory other : List Window) (w : GicrWrite) (r : Redistributor) → reads_tables w ≡ false
    → done_by s memory w r ≡ done_by s other w r

-- registers with kept bits come back from the values that a restore takes
abbrev pub ValuesComeBack : Type 0
ValuesComeBack = (b : Bases) → AreKept b → restored_bases (values_of b) ≡ b
