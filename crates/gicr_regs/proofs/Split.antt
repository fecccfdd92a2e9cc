-- What a write of the LPI registers does to the configuration alone, and what it does whatever memory has.
use Rattle.std.proofs.Common.{◌≡◌, ℕ, Bool, true, false, if◌then◌else◌, List, refl}
use Rattle.guest_windows.specs.Windows.{Window}
use Rattle.its_types.specs.Ranges.{is_lpi}
use Rattle.its_types.specs.declared.machine.Shape.{Shape}
use Rattle.gicr_regs.specs.Redistributors.{Redistributor, ConfState, conf_of, with_conf, reread_at, conf_reread_at}
use Rattle.gicr_regs.specs.Registers.{WritesSplit, WritesLookAway, reads_tables, done_by, conf_done_by}
use Rattle.gicr_regs.specs.declared.write.GicrWrite.{GicrWrite}
use Rattle.gicr_regs.specs.declared.write.GicrWrite.TheVariants as writes

-- an LPI's byte is read again, if it is one
reread : (lpi : Bool) (memory : List Window) (intid : ℕ) (r : Redistributor)
    → (if lpi then reread_at memory intid r else r) ≡ with_conf (if lpi then conf_reread_at memory intid (conf_of r) else conf_of r) r
reread true memory intid r = refl
reread false memory intid r = refl

-- what is pending stays where LPIs are turned neither on nor off
pub split : WritesSplit
unfolding done_by conf_done_by
split s memory (writes.SetBases b) r none = refl
split s memory (writes.Reread intid) r none = reread (is_lpi s.lpi_bits intid.0) memory intid.0 r
split s memory writes.RereadAll r none = refl
split s memory writes.Ignored r none = refl
split s memory writes.Enable r e = cc
split s memory writes.Disable r e = cc

-- memory is indifferent where no table is read
pub looks_away : WritesLookAway
unfolding done_by
looks_away s memory other (writes.SetBases b) r none = refl
looks_away s memory other writes.Ignored r none = refl
looks_away s memory other writes.Disable r none = refl
looks_away s memory other writes.Enable r e = cc
looks_away s memory other (writes.Reread intid) r e = cc
looks_away s memory other writes.RereadAll r e = cc

-- so it is of the configuration alone
pub conf_looks_away : (s : Shape) (memory other : List Window) (w : GicrWrite) (c : ConfState) → reads_tables w ≡ false
    → conf_done_by s memory w c ≡ conf_done_by s other w c
unfolding conf_done_by
conf_looks_away s memory other (writes.SetBases b) c none = refl
conf_looks_away s memory other writes.Ignored c none = refl
conf_looks_away s memory other writes.Disable c none = refl
conf_looks_away s memory other writes.Enable c e = cc
conf_looks_away s memory other (writes.Reread intid) c e = cc
conf_looks_away s memory other writes.RereadAll c e = cc
