-- No command writes memory.
use Rattle.std.proofs.Common.{ℕ, IfOk}
use Rattle.its_command.specs.declared.command.Command.{Command}
use Rattle.its_plain.specs.Plain.{Plain}
use Rattle.its_plain.specs.Commands.{lpi_set, lpi_cleared, all_moved, reread, ran}
use Rattle.plain_footprint.specs.Commands.{IsKept}
use Rattle.plain_footprint.proofs.Kept.{commands_keep}
use Rattle.report_reading.proofs.Kept.{Keeps, kept, kept_then, set_kept, cleared_kept, all_moved_kept, all_reread}

parts_keep : (u : Plain) → IsKept (Keeps u)
parts_keep u = record {
  lpis = record {
    set = λ w intid vcpu on k. kept_then u w (lpi_set intid vcpu w) k (set_kept w intid vcpu);
    cleared = λ w intid vcpu k. kept_then u w (lpi_cleared intid vcpu w) k (cleared_kept w intid vcpu);
    all_moved = λ w from to on k. kept_then u w (all_moved from to w) k (all_moved_kept w from to);
    reread = λ w intids k. kept_then u w (reread intids w) k (all_reread w intids);
  };
  maps = λ w i m k. k;
}

pub ran_kept : (u : Plain) (i : ℕ) (c : Command) → IfOk (ran u i c) (Keeps u)
ran_kept u i c = commands_keep (Keeps u) (parts_keep u) u i c (kept u)
