-- Memory for a redistributor whose LPIs are turned on.
use Rattle.std.specs.Prelude.{◌≡◌, ℕ, Bool, true, false, Option, Some, None}
use Rattle.gicr_regs.specs.declared.write.GicrWrite.{GicrWrite}
use Rattle.gicr_regs.specs.declared.write.GicrWrite.TheVariants as writes
use Rattle.lpi_config.specs.Configurations.{zeros}
use Rattle.lpi_pending.specs.PendingSets.{none_pending}
use Rattle.lpi_pending.specs.declared.gicr.LpiRoom.{LpiRoom}

-- nothing enabled and nothing pending, of as many LPIs
pub record IsRoom (lpi_bits : ℕ) (r : LpiRoom) : Type 0 where
  pub config : r.config ≡ zeros lpi_bits
  pub pending : r.pending ≡ none_pending lpi_bits

-- the write asks to turn LPIs on
abbrev pub is_enable : GicrWrite → Bool
is_enable writes.Enable = true
is_enable writes.Disable = false
is_enable writes.Ignored = false
is_enable (writes.SetBases b) = false
is_enable (writes.Reread intid) = false
is_enable writes.RereadAll = false

-- there is room where a write asks to turn LPIs on
abbrev pub HasRoomFor : ℕ → GicrWrite → Option LpiRoom → Type 0
HasRoomFor lpi_bits w None = is_enable w ≡ false
HasRoomFor lpi_bits w (Some r) = IsRoom lpi_bits r
