-- The rule for a write of the LPI registers of a redistributor (IHI 0069, section 12.11).
use Rattle.std.specs.Prelude.{ℕ, Bool, true, false, ◌||◌, ◌==◌, if◌then◌else◌}
use Rattle.its_types.specs.Bits.{bit_of}
use Rattle.its_types.specs.Halves.{low_half}
use Rattle.its_types.specs.declared.translation.Bases.{Bases}
use Rattle.call_facts.specs.declared.lpi_writes.LpiRule.{LpiRule}
use Rattle.call_facts.specs.declared.lpi_writes.LpiRule.TheVariants.{NoRegister, WhileOn, Same, TurnsOn, TurnsOff, SetsBase, Rereads}

-- it asks for a change
abbrev pub may_change : LpiRule → Bool
may_change NoRegister = false
may_change WhileOn = false
may_change Same = false
may_change TurnsOn = true
may_change TurnsOff = true
may_change SetsBase = true
may_change Rereads = true

abbrev pub rule_ctlr : Bases → ℕ → LpiRule
rule_ctlr b value = if bit_of value 0 then (if b.on then Same else TurnsOn) else (if b.on then TurnsOff else Same)

abbrev pub rule_base : Bases → LpiRule
rule_base b = if b.on then WhileOn else SetsBase

unfoldable pub rule_64 : Bases → ℕ → LpiRule
rule_64 b off =
    if off == 0x70 || off == 0x78 then rule_base b
    else (if off == 0xA0 || off == 0xB0 then Rereads
    else NoRegister)

unfoldable pub rule_word : Bases → ℕ → ℕ → LpiRule
rule_word b off value =
    if off == 0x0 then rule_ctlr b value
    else (if off == 0x70 || off == 0x74 then rule_base b
    else (if off == 0x78 || off == 0x7C then rule_base b
    else (if off == 0xA0 || off == 0xB0 || off == 0xB4 then Rereads
    else NoRegister)))

-- of 8 bytes, or of 4, which take the low 32 bits of the value
unfoldable pub rule : Bases → ℕ → ℕ → ℕ → LpiRule
rule b off size value = if size == 8 then rule_64 b off else (if size == 4 then rule_word b off (low_half value) else NoRegister)
