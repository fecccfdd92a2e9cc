-- What a redistributor knows of LPIs (IHI 0069, sections 5.1.1 and 5.1.2), and what it reads of its tables in guest memory.
use Rattle.std.specs.Prelude.{ℕ, ◌+◌, ◌-◌, ◌/◌, ◌%◌, Bool, false, ◌&&◌, if◌then◌else◌, Option, Some, None, List, [], ◌∷◌, filter, replicate, unwrap_or, refl}
use Rattle.std.specs.List.{range_with_len}
use Rattle.std.specs.Coded.{Coded, code_by, coded×, coded_ℕ, coded_bool, coded_list}
use Rattle.guest_windows.specs.Windows.{Window, inside, read_at, byte_at}
use Rattle.its_types.specs.Bits.{bit_of}
use Rattle.its_types.specs.Lpis.{bases_code, no_bases, with_config_byte}
use Rattle.its_types.specs.Ranges.{first_lpi, lpi_count, pending_bytes}
use Rattle.its_types.specs.declared.machine.Shape.{Shape}
use Rattle.its_types.specs.declared.translation.Bases.{Bases}

-- where its tables are, its pending set, and its copy of the configuration
pub record Redistributor : Type 0 where
  pub bases : Bases
  -- INTIDs, rising
  pub pending : List ℕ
  -- whether it takes LPIs: the same as whether they are on, beside what is pending
  pub accepts : Bool
  -- the byte of each LPI, from 8192 on
  pub config : List ℕ

abbrev pub no_redistributor : Redistributor
no_redistributor = record { bases = no_bases; pending = []; accepts = false; config = [] }

-- LPIs are off
abbrev pub off_redistributor : Shape → Bases → Redistributor
off_redistributor s b = record { bases = b; pending = []; accepts = false; config = replicate (lpi_count s.lpi_bits) 0 }

-- ---- its two parts: what it reads of its tables, and what is pending

-- its LPI registers, and its copy of the configuration
pub record ConfState : Type 0 where
  pub bases : Bases
  pub config : List ℕ

-- its pending set, and whether it takes LPIs
pub record PendState : Type 0 where
  pub pending : List ℕ
  pub accepts : Bool

abbrev pub conf_of : Redistributor → ConfState
conf_of r = record { bases = r.bases; config = r.config }

abbrev pub pend_of : Redistributor → PendState
pend_of r = record { pending = r.pending; accepts = r.accepts }

abbrev pub with_conf : ConfState → Redistributor → Redistributor
with_conf c r = record r { bases = c.bases; config = c.config }

abbrev pub with_pend : PendState → Redistributor → Redistributor
with_pend p r = record r { pending = p.pending; accepts = p.accepts }

-- the redistributor that has both
abbrev pub joined : ConfState → PendState → Redistributor
joined c p = record { bases = c.bases; pending = p.pending; accepts = p.accepts; config = c.config }

-- ---- its tables in memory

-- both tables lie in one window each
abbrev pub has_tables : Shape → List Window → Bases → Bool
has_tables s memory b = inside memory b.prop.table.0 (lpi_count s.lpi_bits) && inside memory b.pend.table.0 (pending_bytes s.lpi_bits)

-- the bit of an LPI in a pending table
abbrev pub is_set : List Window → ℕ → ℕ → Bool
is_set memory base intid = bit_of (unwrap_or (byte_at memory (base + intid / 8)) 0) (intid % 8)

-- the LPIs whose bits are set in the pending table, rising: the first 1024 bytes of the table belong to none
unfoldable pub pending_in : ℕ → List Window → ℕ → List ℕ
pending_in lpi_bits memory base = filter (is_set memory base) (range_with_len first_lpi (lpi_count lpi_bits))

abbrev pub conf_with_byte : ℕ → ConfState → Option ℕ → ConfState
conf_with_byte intid c None = c
conf_with_byte intid c (Some byte) = record c { config = with_config_byte c.config intid byte }

-- where LPIs are on, an LPI's byte is read again, from the redistributor's own table
unfoldable pub conf_reread_at : List Window → ℕ → ConfState → ConfState
conf_reread_at memory intid c = if c.bases.on then conf_with_byte intid c (byte_at memory (c.bases.prop.table.0 + (intid - first_lpi))) else c

abbrev pub conf_all_reread_at : List Window → List ℕ → ConfState → ConfState
conf_all_reread_at memory [] c = c
conf_all_reread_at memory (intid ∷ intids) c = conf_all_reread_at memory intids (conf_reread_at memory intid c)

-- a redistributor reads an LPI's byte again
abbrev pub reread_at : List Window → ℕ → Redistributor → Redistributor
reread_at memory intid r = with_conf (conf_reread_at memory intid (conf_of r)) r

abbrev pub all_reread_at : List Window → List ℕ → Redistributor → Redistributor
all_reread_at memory intids r = with_conf (conf_all_reread_at memory intids (conf_of r)) r

-- the configuration as its table has it
abbrev pub config_in : Shape → List Window → ConfState → List ℕ
config_in s memory c = unwrap_or (read_at memory c.bases.prop.table.0 (lpi_count s.lpi_bits)) c.config

-- with LPIs on, the configuration as memory has it
abbrev pub conf_reloaded : Shape → List Window → ConfState → ConfState
conf_reloaded s memory c = if c.bases.on then record c { config = config_in s memory c } else c

abbrev pub reloaded : Shape → List Window → Redistributor → Redistributor
reloaded s memory r = with_conf (conf_reloaded s memory (conf_of r)) r

-- ---- a code for each, by which models tell values apart

abbrev pub conf_code : Coded ConfState
conf_code =
    code_by (Bases × List ℕ) (coded× bases_code (coded_list coded_ℕ)) (λ c. (c.bases, c.config)) (λ p. record { bases = p.0; config = p.1 }) (λ _. refl)

abbrev pub pend_code : Coded PendState
pend_code =
    code_by (List ℕ × Bool) (coded× (coded_list coded_ℕ) coded_bool) (λ p. (p.pending, p.accepts)) (λ p. record { pending = p.0; accepts = p.1 }) (λ _. refl)

abbrev pub redistributor_code : Coded Redistributor
redistributor_code =
    code_by (ConfState × PendState) (coded× conf_code pend_code) (λ r. (conf_of r, pend_of r)) (λ p. joined p.0 p.1) (λ _. refl)
