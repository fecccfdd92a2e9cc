-- Bit fields of a number, as IHI 0069 writes them.
use Rattle.std.specs.Prelude.{ℕ, ◌/◌, ◌%◌, ◌^◌, Bool, true, false, ◌==◌}

-- the bits from `low` on, `width` of them
abbrev pub field : ℕ → ℕ → ℕ → ℕ
field number low width = number / 2 ^ low % 2 ^ width

-- one bit
abbrev pub bit_of : ℕ → ℕ → Bool
bit_of number at = field number at 1 == 1

-- a bit as the number that it adds at bit 0
abbrev pub bit : Bool → ℕ
bit true = 1
bit false = 0
