-- The configuration part of a redistributor in hand: where its tables stand, and what it has read of the configuration table.
use Rattle.std.specs.Prelude.{◌≡◌, ◌≤◌, ℕ, Bool, true, false, if◌then◌else◌, Option, List, unwrap_or, MatchOption, refl}
use Rattle.std.specs.Coded.{Coded, code_by, coded×}
use Rattle.guest_windows.specs.Windows.{Window, read_at}
use Rattle.gicr_regs.specs.Redistributors.{ConfState}
use Rattle.its_types.specs.Lpis.{bases_code}
use Rattle.its_types.specs.Ranges.{lpi_count}
use Rattle.its_types.specs.declared.translation.Bases.{Bases}
use Rattle.lpi_config.specs.Configurations.{Configuration, configuration_code, zeros}

pub record Conf : Type 0 where
  -- the configuration bytes, as they were when last read
  pub config : Configuration
  -- whether LPIs are on, and where both tables stand
  pub bases : Bases

-- as the plain machine has it
abbrev pub conf_state : Conf → ConfState
conf_state c = record { bases = c.bases; config = c.config.bytes }

-- LPIs are off
abbrev pub off_conf : ℕ → Bases → Conf
off_conf lpi_bits bases = record { config = zeros lpi_bits; bases = bases }

-- with its table's bytes, where that lies in one window
abbrev pub read_or : List Window → Bases → Configuration → Configuration
read_or memory b c = record c { bytes = unwrap_or (read_at memory b.prop.table.0 (lpi_count c.lpi_bits)) c.bytes }

abbrev pub reread : List Window → Conf → Conf
reread memory c = if c.bases.on then record c { config = read_or memory c.bases c.config } else c

abbrev pub turned_on : List Window → Conf → Conf
turned_on memory c = record { config = read_or memory c.bases c.config; bases = record c.bases { on = true } }

abbrev pub turned_off : Conf → Conf
turned_off c = off_conf c.config.lpi_bits (record c.bases { on = false })

-- ---- what holds of the fields

-- there are bytes just where LPIs are on
pub record IsHeld (lpi_bits : ℕ) (config : Option Configuration) (on : Bool) : Type 0 where
  pub low : 14 ≤ lpi_bits
  pub high : lpi_bits ≤ 20
  pub held : MatchOption config (on ≡ false) (λ c. (on ≡ true) × (c.lpi_bits ≡ lpi_bits))

-- ---- a code, by which models tell values apart

abbrev pub conf_code : Coded Conf
conf_code =
    code_by (Configuration × Bases) (coded× configuration_code bases_code) (λ c. (c.config, c.bases)) (λ p. record { config = p.0; bases = p.1 }) (λ _. refl)
