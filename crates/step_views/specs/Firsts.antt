-- Of the virtual processors whose LPIs are on, the first of each configuration table.
use Rattle.std.specs.Prelude.{◌≡◌, ◌<◌, ℕ, Bool, false, not, ◌&&◌, ◌==◌, List, length, slice_index, Option, Some, None}
use Rattle.std.specs.List.{list_any, range_with_len, Contains}
use Rattle.gicr_regs.specs.Registers.{AreLow}
use Rattle.its_types.specs.Bitmap.{word_bit}
use Rattle.its_types.specs.declared.ids.Addr.{Addr}
use Rattle.lpi_config.specs.Conf.{Conf}
use Rattle.lpi_pending.specs.InHand.{RedistParts, conf_in}

-- the configurations of the first n virtual processors are in hand, and their tables lie below 2^52
abbrev pub HaveConfs : ℕ → RedistParts → Type 0
HaveConfs n redists = (vcpu : ℕ) → vcpu < n → (c : Conf) × (conf_in redists vcpu ≡ Some c) × AreLow c.bases

-- it has LPIs on with this table
abbrev pub has_table : Option Conf → ℕ → Bool
has_table None table = false
has_table (Some c) table = c.bases.on && c.bases.prop.table.0 == table

-- one of the first n has
abbrev pub is_used : RedistParts → ℕ → ℕ → Bool
is_used redists n table = list_any (λ vcpu. has_table (conf_in redists vcpu) table) (range_with_len 0 n)

abbrev pub is_new : RedistParts → ℕ → Option Conf → Bool
is_new redists n None = false
is_new redists n (Some c) = c.bases.on && not (is_used redists n c.bases.prop.table.0)

-- its LPIs are on, and those of no earlier one with the same table
abbrev pub is_first : RedistParts → ℕ → Bool
is_first redists vcpu = is_new redists vcpu (conf_in redists vcpu)

-- the bits of the first n virtual processors say which are
pub record AreFirsts (n : ℕ) (redists : RedistParts) (words : List ℕ) : Type 0 where
  pub size : length words ≡ 8
  pub marked : (vcpu : ℕ) → vcpu < n → word_bit words vcpu ≡ is_first redists vcpu

-- ---- how they are found

-- it is the table that is known, if one is
abbrev pub is_known : Option Addr → ℕ → Bool
is_known None table = false
is_known (Some known) table = known.0 == table

-- the tables of the first n virtual processors are among these
abbrev pub HaveTablesIn : ℕ → RedistParts → List ℕ → Type 0
HaveTablesIn n redists tables = (vcpu : ℕ) (c : Conf) → vcpu < n → conf_in redists vcpu ≡ Some c → Contains tables c.bases.prop.table.0

-- the first place of a table, of tables that don't fall
pub record IsPlace (tables : List ℕ) (table place : ℕ) : Type 0 where
  pub inside : place < length tables
  pub is : slice_index tables place ≡ table
  pub below : (k : ℕ) → k < place → slice_index tables k < table

-- the bits by the tables' places say which tables were seen
abbrev pub AreSeen : List ℕ → (ℕ → Bool) → List ℕ → Type 0
AreSeen tables used words = (table place : ℕ) → IsPlace tables table place → word_bit words place ≡ used table
