-- The two halves of a number of 64 bits, as a register of 64 bits is read and written by 4 bytes.
use Rattle.std.specs.Prelude.{ℕ, ◌+◌, ◌*◌, ◌/◌, ◌%◌, ◌^◌}

-- bits 31 to 0
abbrev pub low_half : ℕ → ℕ
low_half whole = whole % 2 ^ 32

-- bits 63 to 32
abbrev pub high_half : ℕ → ℕ
high_half whole = whole / 2 ^ 32

-- a number with another lower half
abbrev pub with_low_half : ℕ → ℕ → ℕ
with_low_half whole value = high_half whole * 2 ^ 32 + value

-- a number with another upper half
abbrev pub with_high_half : ℕ → ℕ → ℕ
with_high_half whole value = value * 2 ^ 32 + low_half whole
