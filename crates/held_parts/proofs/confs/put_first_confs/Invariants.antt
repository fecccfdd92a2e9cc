use Rattle.std.proofs.Common.{◌≡◌, ◌≤◌, List, length}
use Rattle.lpi_config.specs.Conf.{Conf as ConfInHand}
use Rattle.its_steps.specs.Contents.{Held}
use Rattle.its_steps.specs.Parts.{vcpu_count}
use Rattle.its_turns.specs.Machines.{setup, view, IsOf}
use Rattle.held_parts.specs.Redists.{confs_held}
use Rattle.held_parts.specs.Taking.{holding}
use Rattle.held_parts.proofs.RedistLoops.{AreLeft}
use Rattle.held_parts.proofs.confs.put_first_confs.Given as goal

abbrev pub invariant-loop-vcpu : goal.invariant-loop-vcpu
invariant-loop-vcpu l = record {
  of : IsOf l.machine l.pass;
  home : (before : List Held) → (view l.fn.pass).held ≡ confs_held l.fn.redists l.count before → view l.pass
      ≡ holding (view l.fn.pass) (confs_held l.fn.redists l.end before);
  within : l.end ≤ vcpu_count (setup l.machine);
  below : l.end ≤ l.count;
  left : AreLeft ConfInHand l.end l.fn.redists.confs l.redists.confs;
  room : length l.redists.confs ≡ length l.fn.redists.confs;
  pends : l.redists.pends ≡ l.fn.redists.pends;
}

abbrev pub decreases-loop-vcpu : goal.decreases-loop-vcpu
decreases-loop-vcpu l = l.end
