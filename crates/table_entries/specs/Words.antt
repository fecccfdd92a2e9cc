-- Table entries as one number of 64 bits (KVM document arm-vgic-its, ITS table ABI revision 0).
use Rattle.std.specs.Prelude.{ℕ, ◌+◌, ◌-◌, ◌*◌, ◌/◌, ◌^◌, ◌==◌, if◌then◌else◌, Option, Some, None}
use Rattle.its_types.specs.Bits.{field, bit_of}
use Rattle.table_entries.specs.Fields.{DeviceFields, CollectionFields, EventFields}

-- DTE: V 63, next 62:49, ITT_addr 48:5 (bits 51:8 of the address), Size 4:0 (the number of bits minus one)
abbrev pub packed_device : DeviceFields → ℕ
packed_device e = 2 ^ 63 + e.next * 2 ^ 49 + e.itt / 2 ^ 8 * 2 ^ 5 + (e.bits - 1)

abbrev pub unpacked_device : ℕ → Option DeviceFields
unpacked_device word = if bit_of word 63 then Some (record { next = field word 49 14; itt = field word 5 44 * 2 ^ 8; bits = field word 0 5 + 1 }) else None

-- CTE: V 63, RDBase 51:16 (a processor's number), ICID 15:0
abbrev pub packed_collection : CollectionFields → ℕ
packed_collection e = 2 ^ 63 + e.vcpu_number * 2 ^ 16 + e.icid

abbrev pub unpacked_collection : ℕ → Option CollectionFields
unpacked_collection word = if bit_of word 63 then Some (record { vcpu_number = field word 16 36; icid = field word 0 16 }) else None

-- ITE: next 63:48, pINTID 47:16, ICID 15:0; an entry is valid where pINTID isn't zero
abbrev pub packed_event : EventFields → ℕ
packed_event e = e.next * 2 ^ 48 + e.intid * 2 ^ 16 + e.icid

abbrev pub unpacked_event : ℕ → Option EventFields
unpacked_event word = if field word 16 32 == 0 then None else Some (record { next = field word 48 16; intid = field word 16 32; icid = field word 0 16 })
