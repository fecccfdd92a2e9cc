-- The rule by which a write of a translator's register is taken or ignored (IHI 0069, section 12.19).
use Rattle.std.specs.Prelude.{ℕ, Bool, true, false, ◌-◌, ◌%◌, ◌==◌, nat_lt, if◌then◌else◌}
use Rattle.its_types.specs.Bits.{bit_of}
use Rattle.its_types.specs.Halves.{low_half, with_low_half, with_high_half}
use Rattle.gits_regs.specs.Registers.{Registers, kept_cbaser, kept_offset, queue_size, has_bases, is_32, read_64, is_same_queue}
use Rattle.call_facts.specs.declared.writes.WriteRule.{WriteRule}
use Rattle.call_facts.specs.declared.writes.WriteRule.TheVariants.{Taken, NoRegister, ReadOnly, WhileEnabled, NoBases, PastQueue, Same}

abbrev pub is_taken : WriteRule → Bool
is_taken Taken = true
is_taken NoRegister = false
is_taken ReadOnly = false
is_taken WhileEnabled = false
is_taken NoBases = false
is_taken PastQueue = false
is_taken Same = false

-- CTLR: enabled already, to be enabled with all bases valid, or to be disabled
unfoldable pub rule_ctlr : Registers → ℕ → WriteRule
rule_ctlr r value =
    if bit_of value 0 then (if r.enabled then Same else (if has_bases r then Taken else NoBases)) else (if r.enabled then Taken else Same)

unfoldable pub rule_cbaser : Registers → ℕ → WriteRule
rule_cbaser r value = if r.enabled then WhileEnabled else (if is_same_queue r (kept_cbaser value) then Same else Taken)

-- CWRITER has this offset
abbrev pub is_written : Registers → ℕ → Bool
is_written r offset = r.cwriter == offset

unfoldable pub rule_cwriter : Registers → ℕ → WriteRule
rule_cwriter r value =
    if nat_lt (kept_offset value) (queue_size r) then (if is_written r (kept_offset value) then Same else Taken) else PastQueue

-- BASER0 and BASER1
abbrev pub rule_baser : Registers → WriteRule
rule_baser r = if r.enabled then WhileEnabled else Taken

-- a write of a whole 64-bit register
unfoldable pub rule_64 : Registers → ℕ → ℕ → WriteRule
rule_64 r off value =
    if off == 0x80 then rule_cbaser r value
    else (if off == 0x88 then rule_cwriter r value
    else (if off == 0x100 then rule_baser r
    else (if off == 0x108 then rule_baser r
    else (if off == 0x8 then ReadOnly
    else (if off == 0x90 then ReadOnly
    else NoRegister)))))

-- of 4 bytes: CTLR, or a 64-bit register with its other half as it reads
unfoldable pub rule_word : Registers → ℕ → ℕ → WriteRule
rule_word r off value =
    if is_32 off then (if off == 0x0 then rule_ctlr r value else ReadOnly)
    else (if off % 8 == 0 then rule_64 r off (with_low_half (read_64 r off) value)
    else (if off % 8 == 4 then rule_64 r (off - 4) (with_high_half (read_64 r (off - 4)) value)
    else NoRegister))

unfoldable pub rule : Registers → ℕ → ℕ → ℕ → WriteRule
rule r off size value =
    if size == 8 then rule_64 r off value
    else (if size == 4 then rule_word r off (low_half value)
    else NoRegister)
