-- The LPIs of a redistributor (IHI 0069, section 5.1): a pending set, as its INTIDs in rising order, and a configuration,
-- as its bytes from the first LPI on.
use Rattle.std.specs.Prelude.{ℕ, ◌+◌, ◌-◌, ◌*◌, ◌/◌, ◌%◌, Bool, true, false, not, ◌&&◌, ◌==◌, nat_lt, if◌then◌else◌, bit_and, Option, Some, None, List, []}
use Rattle.std.specs.Prelude.{◌∷◌, ◌++◌, filter}
use Rattle.std.specs.Prelude.{find, slice_index, slice_set, refl}
use Rattle.std.specs.List.{list_any}
use Rattle.std.specs.Coded.{Coded, code_by, coded×, coded_ℕ, coded_bool}
use Rattle.its_types.specs.Bits.{bit, bit_of}
use Rattle.its_types.specs.declared.ids.Addr.{Addr}
use Rattle.its_types.specs.declared.translation.Bases.{Bases}

-- ---- pending sets

abbrev pub is_pending : ℕ → List ℕ → Bool
is_pending intid pending = list_any (λ x. x == intid) pending

-- with one LPI more
abbrev pub with_lpi : ℕ → List ℕ → List ℕ
with_lpi x [] = x ∷ []
with_lpi x (y ∷ ys) = if nat_lt y x then y ∷ with_lpi x ys else (if y == x then y ∷ ys else x ∷ y ∷ ys)

-- with all of some
abbrev pub with_lpis : List ℕ → List ℕ → List ℕ
with_lpis [] pending = pending
with_lpis (x ∷ xs) pending = with_lpi x (with_lpis xs pending)

abbrev pub without_lpi : ℕ → List ℕ → List ℕ
without_lpi intid pending = filter (λ x. not (x == intid)) pending

-- ---- pending tables: the bit of an LPI is bit INTID mod 8 of byte INTID / 8

abbrev pub pending_bit : ℕ → List ℕ → ℕ
pending_bit intid pending = bit (is_pending intid pending)

abbrev pub pending_byte : ℕ → List ℕ → ℕ
pending_byte n pending =
    pending_bit (8 * n) pending + 2 * pending_bit (8 * n + 1) pending + 4 * pending_bit (8 * n + 2) pending + 8 * pending_bit (8 * n + 3) pending
    + 16 * pending_bit (8 * n + 4) pending + 32 * pending_bit (8 * n + 5) pending + 64 * pending_bit (8 * n + 6) pending + 128 * pending_bit (8 * n + 7) pending

abbrev if_bit : ℕ → ℕ → ℕ → List ℕ
if_bit n byte at = if bit_of byte at then (8 * n + at) ∷ [] else []

-- the LPIs whose bits are set in byte n
abbrev pub lpis_of_byte : ℕ → ℕ → List ℕ
lpis_of_byte n byte = if_bit n byte 0 ++ if_bit n byte 1 ++ if_bit n byte 2 ++ if_bit n byte 3 ++ if_bit n byte 4 ++ if_bit n byte 5 ++ if_bit n byte 6
    ++ if_bit n byte 7

-- the set with byte n in place of the bits that it had
abbrev pub with_byte : ℕ → ℕ → List ℕ → List ℕ
with_byte n byte pending = with_lpis (lpis_of_byte n byte) (filter (λ x. not (x / 8 == n)) pending)

-- ---- configurations

abbrev pub config_byte : List ℕ → ℕ → ℕ
config_byte config intid = slice_index config (intid - 8192)

abbrev pub with_config_byte : List ℕ → ℕ → ℕ → List ℕ
with_config_byte config intid byte = slice_set config (intid - 8192) byte

-- bit 0 of the LPI's byte
abbrev pub is_enabled : List ℕ → ℕ → Bool
is_enabled config intid = config_byte config intid % 2 == 1

-- bits 7 to 2 of the LPI's byte, where they stand
abbrev pub priority_of : List ℕ → ℕ → ℕ
priority_of config intid = bit_and (config_byte config intid) 252

-- the lowest LPI that is pending and enabled
abbrev pub first_enabled : List ℕ → List ℕ → Option ℕ
first_enabled config pending = find (is_enabled config) pending

-- ---- priorities: a lower number comes first

-- enabled, and of a priority below the mask
abbrev pub is_unmasked : List ℕ → ℕ → ℕ → Bool
is_unmasked config mask intid = is_enabled config intid && nat_lt (priority_of config intid) mask

-- the LPI x, or one of higher INTIDs whose priority comes before that of x
abbrev pub first_of : List ℕ → ℕ → Option ℕ → ℕ
first_of config x None = x
first_of config x (Some y) = if nat_lt (priority_of config y) (priority_of config x) then y else x

-- of those that are pending, enabled and below the mask, the first by priority, and among equal ones the lowest
abbrev pub first_by_priority : List ℕ → ℕ → List ℕ → Option ℕ
first_by_priority config mask [] = None
first_by_priority config mask (x ∷ xs) =
    if is_unmasked config mask x then Some (first_of config x (first_by_priority config mask xs)) else first_by_priority config mask xs

-- the LPI, where it is pending and enabled
abbrev pub claimable : List ℕ → ℕ → List ℕ → Option ℕ
claimable config intid pending = if is_pending intid pending && is_enabled config intid then Some intid else None

-- ---- where the tables stand

-- LPIs are on at these tables, and the redistributor has no registers of its own
abbrev pub described_bases : Addr → Addr → Bases
described_bases config pending = record { on = true; prop = record { table = config; id_bits = 0 }; pend = record { table = pending; ptz = false } }

-- the registers at reset: LPIs are off
abbrev pub no_bases : Bases
no_bases = record { on = false; prop = record { table = record { 0 = 0 }; id_bits = 0 }; pend = record { table = record { 0 = 0 }; ptz = false } }

-- ---- a code for the bases, by which models tell values apart

abbrev pub bases_code : Coded Bases
bases_code =
    code_by (Bool × ((ℕ × ℕ) × (ℕ × Bool))) (coded× coded_bool (coded× (coded× coded_ℕ coded_ℕ) (coded× coded_ℕ coded_bool)))
    (λ b. (b.on, ((b.prop.table.0, b.prop.id_bits), (b.pend.table.0, b.pend.ptz))))
    (λ p. record {
      on = p.0;
      prop = record { table = record { 0 = p.1.0.0 }; id_bits = p.1.0.1 };
      pend = record { table = record { 0 = p.1.1.0 }; ptz = p.1.1.1 };
    })
    (λ _. refl)
