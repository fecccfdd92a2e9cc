-- The LPI configuration of a redistributor (IHI 0069, section 5.1.1): one byte for each LPI, of which bit 0 enables it.
use Rattle.std.specs.Prelude.{◌≡◌, ℕ, ◌*◌, ◌<◌, ◌≤◌, List, length, replicate, slice_index, refl}
use Rattle.std.specs.Coded.{Coded, code_by, coded×, coded_list, coded_ℕ}
use Rattle.its_types.specs.Bits.{bit_of}
use Rattle.its_types.specs.Ranges.{lpi_count}
use Rattle.its_types.specs.Bitmap.{word_bit}
use Rattle.lpi_config.specs.Bounds.{AreOfBytes}

pub record Configuration : Type 0 where
  -- how many bits the INTID of an LPI has
  pub lpi_bits : ℕ
  -- the LPIs' bytes, in the order of their INTIDs
  pub bytes : List ℕ

abbrev pub configuration_code : Coded Configuration
configuration_code =
    code_by (ℕ × List ℕ) (coded× coded_ℕ (coded_list coded_ℕ)) (λ c. (c.lpi_bits, c.bytes)) (λ p. record { lpi_bits = p.0; bytes = p.1 }) (λ _. refl)

-- no LPI enabled, and each of the highest priority
abbrev pub zeros : ℕ → Configuration
zeros lpi_bits = record { lpi_bits = lpi_bits; bytes = replicate (lpi_count lpi_bits) 0 }

-- bit i of the bitmap is bit 0 of byte i
abbrev pub AreEnableBits : List ℕ → List ℕ → Type 0
AreEnableBits words bytes = (i : ℕ) → i < length bytes → word_bit words i ≡ bit_of (slice_index bytes i) 0

-- what holds of the fields of each configuration
pub record IsKept (lpi_bits : ℕ) (bytes enabled least : List ℕ) : Type 0 where
  pub low : 14 ≤ lpi_bits
  pub high : lpi_bits ≤ 20
  pub size : length bytes ≡ lpi_count lpi_bits
  pub words : 64 * length enabled ≡ length bytes
  pub in_step : AreEnableBits enabled bytes
  pub least_size : 64 * length least ≡ length bytes
  pub bounds : AreOfBytes least bytes
