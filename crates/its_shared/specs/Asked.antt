-- The calls of a pass, as entries of the history have them.
use Rattle.std.specs.Prelude.{ℕ, List, Bool, ◌&&◌, ◌||◌, ◌==◌, nat_lt, nat_le, length}
use Rattle.its_plain.specs.Doorbells.{dma_of}
use Rattle.its_plain.specs.declared.call.Call.{Call}
use Rattle.its_plain.specs.declared.call.Call.TheVariants as call
use Rattle.its_shared.specs.Knowing.{Known, has_translator, has_vcpu}

abbrev pub signal : ℕ → ℕ → ℕ → Call
signal its device event = call.Signal its (record { 0 = device }) (record { 0 = event })

abbrev pub take : ℕ → Call
take vcpu = call.Take (record { 0 = vcpu })

abbrev pub show : ℕ → Call
show vcpu = call.Show (record { 0 = vcpu })

abbrev pub best : ℕ → ℕ → Call
best vcpu mask = call.Best (record { 0 = vcpu }) mask

abbrev pub claim : ℕ → ℕ → Call
claim vcpu intid = call.Claim (record { 0 = vcpu }) (record { 0 = intid })

abbrev pub read_register : ℕ → ℕ → ℕ → Call
read_register its offset size = call.ReadReg its offset size

abbrev pub write_register : ℕ → ℕ → ℕ → ℕ → Call
write_register its offset size value = call.WriteReg its offset size value

abbrev pub read_lpi_register : ℕ → ℕ → ℕ → Call
read_lpi_register vcpu offset size = call.ReadGicr (record { 0 = vcpu }) offset size

abbrev pub write_lpi_register : ℕ → ℕ → ℕ → ℕ → Call
write_lpi_register vcpu offset size value = call.WriteGicr (record { 0 = vcpu }) offset size value

abbrev pub step : ℕ → Call
step its = call.Step its

abbrev pub write_memory : ℕ → List ℕ → Call
write_memory address bytes = call.Poke (record { 0 = address }) bytes

abbrev pub read_memory : ℕ → ℕ → Call
read_memory address count = call.Peek (record { 0 = address }) count

-- what a requester's write is by the description
abbrev pub dma : Known → ℕ → ℕ → List ℕ → Call
dma k requester address bytes = dma_of k.desc requester (record { 0 = address }) bytes

-- ---- which numbers are in their ranges

abbrev pub has_mask : Known → ℕ → ℕ → Bool
has_mask k vcpu mask = has_vcpu k vcpu && nat_lt mask 256

abbrev pub is_size : ℕ → Bool
is_size size = size == 4 || size == 8

-- a register of a translator, of so many bytes
abbrev pub has_control : Known → ℕ → ℕ → Bool
has_control k its size = has_translator k its && is_size size

abbrev pub has_register : Known → ℕ → ℕ → Bool
has_register k vcpu size = has_vcpu k vcpu && is_size size

abbrev pub is_count : List ℕ → Bool
is_count bytes = nat_lt 0 (length bytes) && nat_le (length bytes) 64
