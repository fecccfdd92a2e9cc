-- A write leaves kept bits alone.
use Rattle.std.proofs.Common.{ℕ, Bool, true, false, ◌||◌, ◌==◌, if◌then◌else◌, arith}
use Rattle.its_types.specs.Bits.{bit_of}
use Rattle.its_types.specs.declared.translation.Bases.{Bases}
use Rattle.gicr_regs.specs.Registers.{AreKept, Sets, WritesKeepBits, asked_by, asked_by_64, asked_by_word, kept_propbaser, kept_pendbaser, with_prop}
use Rattle.gicr_regs.specs.Registers.{with_pend, propbaser_value, pendbaser_value}
use Rattle.its_types.specs.Halves.{with_low_half, with_high_half, low_half}
use Rattle.gicr_regs.specs.declared.write.GicrWrite.{GicrWrite}
use Rattle.gicr_regs.specs.declared.write.GicrWrite.TheVariants as writes

-- of two writes, whichever a test takes
either : (t : Bool) (x y : GicrWrite) → Sets AreKept x → Sets AreKept y → Sets AreKept (if t then x else y)
either true x y p q = p
either false x y p q = q

set_prop : (b : Bases) → AreKept b → (value : ℕ) → Sets AreKept (with_prop b (kept_propbaser value))
set_prop b k value =
    either b.on writes.Ignored (writes.SetBases (record b { prop = kept_propbaser value })) tt
    (record { prop_whole = omega arith; prop_low = omega arith; id_bits = omega arith; pend_whole = k.pend_whole; pend_low = k.pend_low })

set_pend : (b : Bases) → AreKept b → (value : ℕ) (ptz : Bool) → Sets AreKept (with_pend b (record (kept_pendbaser value) { ptz = ptz }))
set_pend b k value ptz =
    either b.on writes.Ignored (writes.SetBases (record b { pend = record (kept_pendbaser value) { ptz = ptz } })) tt
    (record { prop_whole = k.prop_whole; prop_low = k.prop_low; id_bits = k.id_bits; pend_whole = omega arith; pend_low = omega arith })

by_64 : (b : Bases) → AreKept b → (off value : ℕ) → Sets AreKept (asked_by_64 b off value)
unfolding asked_by_64
by_64 b k off value =
    either (off == 0x70) _ _ (set_prop b k value)
    (either (off == 0x78) _ _ (set_pend b k value (bit_of value 62))
    (either (off == 0xA0) _ _ tt (either (off == 0xB0) _ _ tt tt)))

by_word : (b : Bases) → AreKept b → (off value : ℕ) → Sets AreKept (asked_by_word b off value)
unfolding asked_by_word
by_word b k off value =
    either (off == 0x0) _ _ (either (bit_of value 0) _ _ (either b.on writes.Ignored writes.Enable tt tt) (either b.on writes.Disable writes.Ignored tt tt))
    (either (off == 0x70) _ _ (set_prop b k (with_low_half (propbaser_value b.prop) value))
    (either (off == 0x74) _ _ (set_prop b k (with_high_half (propbaser_value b.prop) value))
    (either (off == 0x78) _ _ (set_pend b k (with_low_half (pendbaser_value b.pend) value) b.pend.ptz)
    (either (off == 0x7C) _ _ (set_pend b k (with_high_half (pendbaser_value b.pend) value) b.pend.ptz)
    (either (off == 0xA0) _ _ tt (either (off == 0xB0 || off == 0xB4) _ _ tt tt))))))

pub kept : WritesKeepBits
unfolding asked_by
kept b off size value k = either (size == 8) _ _ (by_64 b k off value) (either (size == 4) _ _ (by_word b k off (low_half value)) tt)
