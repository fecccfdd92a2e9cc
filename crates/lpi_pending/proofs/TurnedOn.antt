-- A redistributor in hand whose LPIs are turned on.
use Rattle.std.proofs.Common.{◌≡◌, ℕ, Bool, true, false, if◌then◌else◌, List, refl, ap, ◌∙◌}
use Rattle.guest_windows.specs.Windows.{Window, inside}
use Rattle.its_types.specs.Ranges.{lpi_count, pending_bytes}
use Rattle.its_types.specs.declared.machine.Shape.{Shape}
use Rattle.gicr_regs.specs.Redistributors.{pending_in}
use Rattle.gicr_regs.specs.Registers as registers
use Rattle.gicr_regs.specs.declared.write.GicrWrite.TheVariants.{Enable}
use Rattle.lpi_config.specs.Conf.{Conf}
use Rattle.lpi_config.specs.Conf as conf
use Rattle.lpi_pending.specs.InHand.{redistributor_of, HasLpisOfConf, HasLpisOfPend}
use Rattle.lpi_pending.specs.Pend.{Pend, read_from}
use Rattle.lpi_pending.specs.Pend as pend

-- what is pending: as it was, or as the table says
read_lpis : (ptz : Bool) (s : Shape) (m : List Window) (base : ℕ) (p : Pend) → HasLpisOfPend s p → inside m base (pending_bytes s.lpi_bits) ≡ true
    → (if ptz then p.pending else read_from m base p.pending).lpis ≡ (if ptz then p.pending.lpis else pending_in s.lpi_bits m base)
read_lpis true s m base p same in_memory = refl
read_lpis false s m base p same in_memory =
    let there : inside m base (pending_bytes p.pending.lpi_bits) ≡ true = ap (λ (n : ℕ). inside m base (pending_bytes n)) same ∙ in_memory in
    rw (there) (ap (λ (n : ℕ). pending_in n m base) same)

pub turned_on_is : (s : Shape) (m : List Window) (c : Conf) (p : Pend) → HasLpisOfConf s c → HasLpisOfPend s p
    → inside m c.bases.prop.table.0 (lpi_count s.lpi_bits) ≡ true → inside m c.bases.pend.table.0 (pending_bytes s.lpi_bits) ≡ true
    → redistributor_of (conf.turned_on m c) (pend.turned_on m c.bases.pend p) ≡ registers.done_by s m Enable (redistributor_of c p)
unfolding registers.done_by registers.turned_on
turned_on_is s m c p conf_lpis pend_lpis config_in pending_in_memory =
    let lpis = read_lpis c.bases.pend.ptz s m c.bases.pend.table.0 p pend_lpis pending_in_memory in
    rw (config_in, pending_in_memory, lpis, conf_lpis) refl
