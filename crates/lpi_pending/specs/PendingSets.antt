-- The pending LPIs of a redistributor (IHI 0069, section 5.1.2).
use Rattle.std.specs.Prelude.{◌≡◌, ℕ, ◌+◌, ◌-◌, ◌*◌, ◌/◌, ◌%◌, ◌≤◌, Bool, ◌==◌, List, [], length, filter, unwrap_or, refl}
use Rattle.std.specs.List.{list_any, range_with_len}
use Rattle.std.specs.Coded.{Coded, code_by, coded×, coded_list, coded_ℕ}
use Rattle.guest_windows.specs.Windows.{Window, byte_at}
use Rattle.its_types.specs.Bits.{bit_of}
use Rattle.its_types.specs.Ranges.{lpi_count}
use Rattle.its_types.specs.declared.ids.Intid.{Intid}
use Rattle.its_types.specs.Bitmap.{word_bit}
use Rattle.lpi_pending.specs.Searches.{count_in}

pub record PendingSet : Type 0 where
  -- how many bits the INTID of an LPI has
  pub lpi_bits : ℕ
  -- the INTIDs, in rising order
  pub lpis : List ℕ

abbrev pub pending_set_code : Coded PendingSet
pending_set_code =
    code_by (ℕ × List ℕ) (coded× coded_ℕ (coded_list coded_ℕ)) (λ p. (p.lpi_bits, p.lpis)) (λ p. record { lpi_bits = p.0; lpis = p.1 }) (λ _. refl)

-- none is pending
abbrev pub none_pending : ℕ → PendingSet
none_pending lpi_bits = record { lpi_bits = lpi_bits; lpis = [] }

-- an LPI's number as the code has it
abbrev pub as_intid : ℕ → Intid
as_intid x = record { 0 = x }

-- ---- as a bitmap

-- the bit of an LPI, where the first LPI's is the first bit
abbrev pub lpi_bit : List ℕ → ℕ → Bool
lpi_bit words intid = word_bit words (intid - 8192)

-- the LPIs whose bits are 1
abbrev pub lpis_of : List ℕ → List ℕ
lpis_of words = filter (lpi_bit words) (range_with_len 8192 (64 * length words))

-- bit k of a table at an address
abbrev pub table_bit : List Window → ℕ → ℕ → Bool
table_bit memory address k = bit_of (unwrap_or (byte_at memory (address + k / 8)) 0) (k % 8)

-- what holds of the fields of each pending set
pub record IsKept (lpi_bits : ℕ) (words : List ℕ) : Type 0 where
  pub low : 14 ≤ lpi_bits
  pub high : lpi_bits ≤ 20
  pub size : 64 * length words ≡ lpi_count lpi_bits

-- ---- how many words a search looks at

-- of the 64 LPIs from 64 * at on, some is pending
abbrev pub is_busy : List ℕ → ℕ → Bool
is_busy lpis at = list_any (λ x. x / 64 == at) lpis

-- how many words of 64 LPIs have a pending one: the first LPI is at the beginning of word 128
abbrev pub busy_words : PendingSet → ℕ
busy_words p = count_in (is_busy p.lpis) 128 (lpi_count p.lpi_bits / 64)

-- how many words the summary has: a bit for each word of 64 LPIs
abbrev pub summary_words : ℕ → ℕ
summary_words lpi_bits = lpi_count lpi_bits / 4096
