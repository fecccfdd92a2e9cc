-- A write that gives other bases leaves LPIs on or off.
use Rattle.std.proofs.Common.{◌≡◌, ℕ, Bool, true, false, ◌==◌, ◌||◌, if◌then◌else◌, refl}
use Rattle.its_types.specs.Bits.{bit_of}
use Rattle.its_types.specs.Halves.{low_half}
use Rattle.its_types.specs.declared.translation.Bases.{Bases}
use Rattle.its_types.specs.declared.translation.Propbaser.{Propbaser}
use Rattle.its_types.specs.declared.translation.Pendbaser.{Pendbaser}
use Rattle.gicr_regs.specs.Registers.{Sets, asked_by, asked_by_64, asked_by_word, asked_by_ctlr, with_prop, with_pend}
use Rattle.gicr_regs.specs.declared.write.GicrWrite.{GicrWrite}
use Rattle.gicr_regs.specs.declared.write.GicrWrite.TheVariants as writes

by_case : (P : Bases → Type 0) (c : Bool) (x y : GicrWrite) → Sets P x → Sets P y → Sets P (if c then x else y)
by_case P true x y sx sy = sx
by_case P false x y sx sy = sy

prop_keeps : (b : Bases) (p : Propbaser) → Sets (λ n. n.on ≡ b.on) (with_prop b p)
prop_keeps b p = by_case (λ n. n.on ≡ b.on) b.on writes.Ignored (writes.SetBases (record b { prop = p })) tt refl

pend_keeps : (b : Bases) (p : Pendbaser) → Sets (λ n. n.on ≡ b.on) (with_pend b p)
pend_keeps b p = by_case (λ n. n.on ≡ b.on) b.on writes.Ignored (writes.SetBases (record b { pend = p })) tt refl

ctlr_keeps : (b : Bases) (value : ℕ) → Sets (λ n. n.on ≡ b.on) (asked_by_ctlr b value)
ctlr_keeps b value = by_case (λ n. n.on ≡ b.on) (bit_of value 0) _ _
    (by_case (λ n. n.on ≡ b.on) b.on writes.Ignored writes.Enable tt tt)
    (by_case (λ n. n.on ≡ b.on) b.on writes.Disable writes.Ignored tt tt)

word_keeps : (b : Bases) (off value : ℕ) → Sets (λ n. n.on ≡ b.on) (asked_by_word b off value)
unfolding asked_by_word
word_keeps b off value =
    by_case (λ n. n.on ≡ b.on) (off == 0x0) _ _ (ctlr_keeps b value)
    (by_case (λ n. n.on ≡ b.on) (off == 0x70) _ _ (prop_keeps b _)
    (by_case (λ n. n.on ≡ b.on) (off == 0x74) _ _ (prop_keeps b _)
    (by_case (λ n. n.on ≡ b.on) (off == 0x78) _ _ (pend_keeps b _)
    (by_case (λ n. n.on ≡ b.on) (off == 0x7C) _ _ (pend_keeps b _)
    (by_case (λ n. n.on ≡ b.on) (off == 0xA0) (writes.Reread (record { 0 = value })) _ tt
    (by_case (λ n. n.on ≡ b.on) (off == 0xB0 || off == 0xB4) writes.RereadAll writes.Ignored tt tt))))))

long_keeps : (b : Bases) (off value : ℕ) → Sets (λ n. n.on ≡ b.on) (asked_by_64 b off value)
unfolding asked_by_64
long_keeps b off value =
    by_case (λ n. n.on ≡ b.on) (off == 0x70) _ _ (prop_keeps b _)
    (by_case (λ n. n.on ≡ b.on) (off == 0x78) _ _ (pend_keeps b _)
    (by_case (λ n. n.on ≡ b.on) (off == 0xA0) (writes.Reread (record { 0 = low_half value })) _ tt
    (by_case (λ n. n.on ≡ b.on) (off == 0xB0) writes.RereadAll writes.Ignored tt tt)))

pub asked_keeps : (b : Bases) (off size value : ℕ) → Sets (λ n. n.on ≡ b.on) (asked_by b off size value)
unfolding asked_by
asked_keeps b off size value =
    by_case (λ n. n.on ≡ b.on) (size == 8) _ _ (long_keeps b off value)
    (by_case (λ n. n.on ≡ b.on) (size == 4) _ writes.Ignored (word_keeps b off (low_half value)) tt)
