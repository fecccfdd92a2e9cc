-- The fields of a line.
use Rattle.std.specs.Prelude.{ℕ, ◌^◌, ◌-◌, ◌&&◌, nat_lt, nat_le, if◌then◌else◌, List, [], length, slice_index_or, Option, Some, None, Result, Ok, Err}
use Rattle.hex.specs.Hex.{decode_of}
use Rattle.hex.specs.declared.error.FromHexError.{FromHexError}
use Rattle.its_types.specs.declared.ids.Addr.{Addr}
use Rattle.its_types.specs.declared.ids.DeviceId.{DeviceId}
use Rattle.its_types.specs.declared.ids.EventId.{EventId}
use Rattle.its_types.specs.declared.ids.Icid.{Icid}
use Rattle.its_types.specs.declared.ids.Intid.{Intid}
use Rattle.its_types.specs.declared.ids.Vcpu.{Vcpu}
use Rattle.event_script.specs.Text.{number}
use Rattle.event_script.specs.Outcome.{◌>>=◌, ensure}
use Rattle.event_script.specs.declared.fault.Kind.{Kind}
use Rattle.event_script.specs.declared.fault.Kind.TheVariants as kind

-- the field at a place
abbrev pub arg : List (List ℕ) → ℕ → List ℕ
arg fs i = slice_index_or fs i []

abbrev pub within : ℕ → ℕ → Option ℕ → Result ℕ Kind
within low high None = Err kind.Number
within low high (Some n) = if nat_le low n && nat_le n high then Ok n else Err kind.Number

-- a number from low to high
unfoldable pub number_within : ℕ → ℕ → List ℕ → Result ℕ Kind
number_within low high f = within low high (number f)

-- any number below 2 ^ 64
abbrev pub any_number : List ℕ → Result ℕ Kind
any_number f = number_within 0 (2 ^ 64 - 1) f

unfoldable pub address : List ℕ → Result Addr Kind
address f = do
  n ← any_number f
  Ok (record { 0 = n })

unfoldable pub device : List ℕ → Result DeviceId Kind
device f = do
  n ← number_within 0 (2 ^ 32 - 1) f
  Ok (record { 0 = n })

unfoldable pub event : List ℕ → Result EventId Kind
event f = do
  n ← number_within 0 (2 ^ 32 - 1) f
  Ok (record { 0 = n })

unfoldable pub interrupt : List ℕ → Result Intid Kind
interrupt f = do
  n ← number_within 0 (2 ^ 32 - 1) f
  Ok (record { 0 = n })

unfoldable pub collection : List ℕ → Result Icid Kind
collection f = do
  n ← number_within 0 (2 ^ 16 - 1) f
  Ok (record { 0 = n })

-- a processor of the machine, which has so many
unfoldable pub processor : ℕ → List ℕ → Result Vcpu Kind
processor vcpus f = do
  n ← any_number f
  _ ← ensure (nat_lt n vcpus) kind.Number
  Ok (record { 0 = n })

abbrev pub sized : ℕ → Result (List ℕ) FromHexError → Result (List ℕ) Kind
sized most (Err e) = Err kind.Hex
sized most (Ok bytes) = if nat_lt 0 (length bytes) && nat_le (length bytes) most then Ok bytes else Err kind.Hex

-- from one byte to so many, as two hexadecimal digits each
unfoldable pub bytes_within : ℕ → List ℕ → Result (List ℕ) Kind
bytes_within most f = sized most (decode_of f)
