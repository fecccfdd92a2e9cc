-- No command turns LPIs on or off, or makes one pending where they are off.
use Rattle.std.proofs.Common.{ℕ, IfOk}
use Rattle.its_command.specs.declared.command.Command.{Command}
use Rattle.its_plain.specs.Plain.{Plain}
use Rattle.its_plain.specs.Commands.{lpi_set, lpi_cleared, all_moved, reread, ran}
use Rattle.plain_footprint.specs.Commands.{IsKept}
use Rattle.plain_footprint.proofs.Kept.{commands_keep}
use Rattle.lpi_enabling.proofs.Kept.{AllKeep, all_kept, all_kept_then, set_kept, cleared_kept, all_moved_kept, all_reread}

parts_keep : (u : Plain) → IsKept (AllKeep u)
parts_keep u = record {
  lpis = record {
    set = λ w intid vcpu on k. all_kept_then u w (lpi_set intid vcpu w) k (set_kept w intid vcpu on);
    cleared = λ w intid vcpu k. all_kept_then u w (lpi_cleared intid vcpu w) k (cleared_kept w intid vcpu);
    all_moved = λ w from to on k. all_kept_then u w (all_moved from to w) k (all_moved_kept w from to on);
    reread = λ w intids k. all_kept_then u w (reread intids w) k (all_reread w intids);
  };
  maps = λ w i m k. k;
}

pub ran_kept : (u : Plain) (i : ℕ) (c : Command) → IfOk (ran u i c) (AllKeep u)
ran_kept u i c = commands_keep (AllKeep u) (parts_keep u) u i c (all_kept u)
