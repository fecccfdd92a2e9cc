-- Values of registers by their fields, in words.
use Rattle.std.specs.Prelude.{ℕ, ◌+◌, ◌*◌, ◌^◌, ◌||◌, ◌==◌, if◌then◌else◌, List, [], ◌++◌, codes, Option, Some, None}
use Rattle.gits_regs.specs.Registers.{is_indirect, is_valid, pages, size_of, table_base}
use Rattle.its_types.specs.Bits.{field, bit_of}
use Rattle.its_explain.specs.Numbers.{enclosed, numbered, in_hexadecimal}

-- ---- a translator's (IHI 0069, section 12.19)

-- the name of the register at an offset, or at its upper half's
unfoldable pub translator_register : ℕ → Option (List ℕ)
translator_register off =
    if off == 0x0 then Some (codes "GITS_CTLR")
    else (if off == 0x4 then Some (codes "GITS_IIDR")
    else (if off == 0x8 || off == 0xC then Some (codes "GITS_TYPER")
    else (if off == 0x80 || off == 0x84 then Some (codes "GITS_CBASER")
    else (if off == 0x88 || off == 0x8C then Some (codes "GITS_CWRITER")
    else (if off == 0x90 || off == 0x94 then Some (codes "GITS_CREADR")
    else (if off == 0x100 || off == 0x104 then Some (codes "GITS_BASER0")
    else (if off == 0x108 || off == 0x10C then Some (codes "GITS_BASER1")
    else (if off == 0xFFE8 then Some (codes "GITS_PIDR2")
    else None))))))))

-- bit 63 of a base
abbrev pub validity_text : ℕ → List ℕ
validity_text value = if is_valid value then codes ", valid" else codes ", not valid"

-- GITS_CTLR: bit 0
abbrev pub enabled_text : ℕ → List ℕ
enabled_text value = if bit_of value 0 then codes "the translator is enabled" else codes "the translator isn't enabled"

-- GITS_TYPER: Devbits, ID_bits and ITT_entry_size
unfoldable pub typer_text : ℕ → List ℕ
typer_text value =
    numbered (codes "DeviceIDs of ") (field value 13 5 + 1) ++ numbered (codes " bits, EventIDs of ") (field value 8 5 + 1)
    ++ numbered (codes ", and ") (field value 4 4 + 1) ++ codes " bytes of table for each event"

-- GITS_CBASER: bits 51 to 16 of the address, and how many bytes the queue has
unfoldable pub queue_text : ℕ → List ℕ
queue_text value =
    in_hexadecimal (codes "the queue at ") (field value 16 36 * 2 ^ 16) ++ in_hexadecimal (codes " has ") (size_of value) ++ codes " bytes"
    ++ validity_text value

-- Indirect, bit 62
abbrev pub levels_text : ℕ → List ℕ
levels_text value = if is_indirect value then codes ", in two levels" else []

-- GITS_BASER0 and GITS_BASER1: the address of the table, after the words for it, and its size in pages of 64 KiB
unfoldable pub table_text : List ℕ → ℕ → List ℕ
table_text words value =
    in_hexadecimal words (table_base value) ++ numbered (codes " has ") (pages value) ++ codes " x 64 KiB" ++ levels_text value
    ++ validity_text value

-- GITS_CWRITER and GITS_CREADR, after the words for it
unfoldable pub offset_text : List ℕ → ℕ → List ℕ
offset_text words value = in_hexadecimal words value ++ codes " of the queue"

-- GITS_PIDR2: ArchRev
abbrev pub version_text : ℕ → List ℕ
version_text value = enclosed (codes "version ") (field value 4 4) (codes " of the architecture")

-- the fields of the register at an offset, by its whole value
unfoldable pub translator_fields : ℕ → ℕ → List ℕ
translator_fields off value =
    if off == 0x0 then enabled_text value
    else (if off == 0x4 then codes "who made the translator"
    else (if off == 0x8 || off == 0xC then typer_text value
    else (if off == 0x80 || off == 0x84 then queue_text value
    else (if off == 0x88 || off == 0x8C then offset_text (codes "commands stand up to offset ") value
    else (if off == 0x90 || off == 0x94 then offset_text (codes "the next command stands at offset ") value
    else (if off == 0x100 || off == 0x104 then table_text (codes "the device table at ") value
    else (if off == 0x108 || off == 0x10C then table_text (codes "the collection table at ") value
    else version_text value)))))))

unfoldable pub name_text : List ℕ → List ℕ
name_text name = name ++ codes ": "

unfoldable pub named_text : List ℕ → List ℕ → List ℕ
named_text name fields = name_text name ++ fields

abbrev pub translator_named : ℕ → ℕ → Option (List ℕ) → List ℕ
translator_named off value None = codes "no register here: it reads zero and ignores writes"
translator_named off value (Some name) = named_text name (translator_fields off value)

-- the name and the fields
abbrev pub translator_text : ℕ → ℕ → List ℕ
translator_text off value = translator_named off value (translator_register off)

-- ---- the LPI registers of a redistributor (section 12.11)

unfoldable pub lpi_register : ℕ → Option (List ℕ)
lpi_register off =
    if off == 0x0 then Some (codes "GICR_CTLR")
    else (if off == 0x70 || off == 0x74 then Some (codes "GICR_PROPBASER")
    else (if off == 0x78 || off == 0x7C then Some (codes "GICR_PENDBASER")
    else (if off == 0xA0 || off == 0xA4 then Some (codes "GICR_INVLPIR")
    else (if off == 0xB0 || off == 0xB4 then Some (codes "GICR_INVALLR")
    else (if off == 0xC0 then Some (codes "GICR_SYNCR")
    else None)))))

-- GICR_CTLR: EnableLPIs, bit 0
abbrev pub on_text : ℕ → List ℕ
on_text value = if bit_of value 0 then codes "LPIs are on" else codes "LPIs are off"

-- GICR_PROPBASER: bits 51 to 12 of the address, and IDbits
unfoldable pub config_table_text : ℕ → List ℕ
config_table_text value =
    in_hexadecimal (codes "the configuration table at ") (field value 12 40 * 4096) ++ numbered (codes ", IDbits ") (field value 0 5)

-- GICR_PENDBASER: bits 51 to 16 of the address
abbrev pub pending_table_text : ℕ → List ℕ
pending_table_text value = in_hexadecimal (codes "the pending table at ") (field value 16 36 * 2 ^ 16)

unfoldable pub lpi_fields : ℕ → ℕ → List ℕ
lpi_fields off value =
    if off == 0x0 then on_text value
    else (if off == 0x70 || off == 0x74 then config_table_text value
    else (if off == 0x78 || off == 0x7C then pending_table_text value
    else codes "it reads zero"))

abbrev pub lpi_named : ℕ → ℕ → Option (List ℕ) → List ℕ
lpi_named off value None = codes "no LPI register: it reads zero and ignores writes"
lpi_named off value (Some name) = named_text name (lpi_fields off value)

abbrev pub lpi_text : ℕ → ℕ → List ℕ
lpi_text off value = lpi_named off value (lpi_register off)
