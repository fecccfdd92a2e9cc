-- Configuration bytes of some LPIs (IHI 0069, section 5.1.1), read of one table, and put in place of those that were read before.
use Rattle.std.specs.Prelude.{ℕ, ◌+◌, ◌-◌, ◌≤◌, ◌^◌, List, [], ◌∷◌, map, Option, Some, None}
use Rattle.guest_windows.specs.Windows.{Window, byte_at}
use Rattle.its_types.specs.Lpis.{with_config_byte}
use Rattle.its_types.specs.declared.ids.Intid.{Intid}
use Rattle.its_plain.specs.Plain.{ConfState}

abbrev pub numbers : List Intid → List ℕ
numbers intids = map (λ x. x.0) intids

-- the table stands where memory can be, and the INTID is an LPI's
pub record CanRead (table : ℕ) (intid : Intid) : Type 0 where
  pub low : table ≤ 2 ^ 52
  pub lpi : 8192 ≤ intid.0

-- the byte of each in the table that begins at an address, if a window has it
abbrev pub bytes_of : List Window → ℕ → List Intid → List (Option ℕ)
bytes_of memory table intids = map (λ x. byte_at memory (table + (x.0 - 8192))) intids

-- with the byte of an LPI that was read, if it was
abbrev pub with_read : ℕ → ConfState → Option ℕ → ConfState
with_read intid c None = c
with_read intid c (Some byte) = record c { config = with_config_byte c.config intid byte }

-- with that of each
abbrev pub reloaded : List Intid → List (Option ℕ) → ConfState → ConfState
reloaded [] bytes c = c
reloaded (intid ∷ intids) [] c = c
reloaded (intid ∷ intids) (byte ∷ bytes) c = reloaded intids bytes (with_read intid.0 c byte)
