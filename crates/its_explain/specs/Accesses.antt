-- Writes of registers, of 8 bytes or of 4, and what they left of the value, in words.
use Rattle.std.specs.Prelude.{ℕ, Bool, not, ◌%◌, ◌&&◌, ◌==◌, if◌then◌else◌, List, [], ◌++◌, codes, Option, Some, None}
use Rattle.its_types.specs.Bits.{field}
use Rattle.its_explain.specs.Numbers.{in_hexadecimal}
use Rattle.its_explain.specs.declared.access.Access.{Access}

-- an offset of the upper half of a 64-bit register; GITS_IIDR at 4 has 32 bits
abbrev pub is_upper : ℕ → Bool
is_upper off = off % 8 == 4 && not (off == 4)

-- what a whole register has where the write goes
abbrev pub part : Access → ℕ → ℕ
part a whole = if a.size == 8 then whole else (if is_upper a.off then field whole 32 32 else field whole 0 32)

-- and what is written there
abbrev pub written : Access → ℕ
written a = if a.size == 8 then a.value else field a.value 0 32

unfoldable pub reads_text : ℕ → ℕ → List ℕ
reads_text value reads = in_hexadecimal (codes "; written ") value ++ in_hexadecimal (codes ", it reads ") reads

-- what the register reads of the value, if that isn't the same
abbrev pub kept_text : Access → ℕ → List ℕ
kept_text a after = if part a after == written a then [] else reads_text a.value (part a after)

-- the name of a register, if it has one
abbrev pub name_or : Option (List ℕ) → List ℕ
name_or None = codes "this register"
name_or (Some name) = name

-- a write of it was ignored
unfoldable pub ignored_text : Option (List ℕ) → List ℕ
ignored_text name = codes "ignored: " ++ name_or name
