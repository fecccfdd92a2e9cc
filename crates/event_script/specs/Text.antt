-- A text as lines, a line as fields, a field as a number.
use Rattle.std.specs.Prelude.{ℕ, ◌^◌, Bool, not, ◌&&◌, ◌==◌, nat_lt, nat_le, if◌then◌else◌, List, length, drop, take, filter, codes, Option, Some, None}
use Rattle.std.specs.List.{slice_split, list_all}
use Rattle.std.specs.Char.{digit_value}
use Rattle.std.specs.Str.{bytes_eq}
use Rattle.std.specs.Str.Parse.{digits_value}

-- what stands before each line end, and after the last
abbrev pub parts : List ℕ → List (List ℕ)
parts bytes = slice_split (λ b. b == 10) bytes

-- what stands between spaces
abbrev pub fields : List ℕ → List (List ℕ)
fields line = filter (λ f. not (length f == 0)) (slice_split (λ b. b == 32) line)

-- each byte prints
abbrev pub is_text : List ℕ → Bool
is_text line = list_all (λ b. nat_le 32 b && nat_le b 126) line

-- some digits of a base, and nothing else
abbrev pub are_digits : ℕ → List ℕ → Bool
are_digits base digits = nat_lt 0 (length digits) && list_all (λ c. nat_lt (digit_value c) base) digits

-- the number below 2 ^ 64 that digits of a base say
abbrev pub number_in : ℕ → List ℕ → Option ℕ
number_in base digits = if are_digits base digits && nat_lt (digits_value base digits) (2 ^ 64) then Some (digits_value base digits) else None

-- decimal digits, or 0x and 1 to 16 hexadecimal ones of either case
abbrev pub number : List ℕ → Option ℕ
number field =
    if bytes_eq (take 2 field) (codes "0x") then (if nat_le (length field) 18 then number_in 16 (drop 2 field) else None)
    else number_in 10 field
