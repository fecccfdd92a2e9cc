use Rattle.std.proofs.Common.{◌≡◌, ◌≤◌, ◌-◌, length}
use Rattle.lpi_pending.specs.InHand.{HasLpisOfConf}
use Rattle.its_turns.specs.Machines.{setup, view, IsOf}
use Rattle.held_parts.specs.Redists.{conf_held, IsConfIn}
use Rattle.held_parts.specs.Once.{TakesAtOnce}
use Rattle.held_parts.proofs.RedistLoops.{AreTaken}
use Rattle.held_parts.proofs.redists.once_confs.Given as goal

abbrev pub invariant-loop-next : goal.invariant-loop-next
invariant-loop-next l = record {
  of : IsOf l.machine l.pass;
  takes : TakesAtOnce (IsConfIn l.set) (view l.fn.pass) (view l.pass);
  within : l.next ≤ l.vcpus;
  taken : AreTaken conf_held (HasLpisOfConf (setup l.machine).start.layout.shape) (setup l.machine) l.set l.next l.redists.confs
      (view l.fn.pass).held (view l.pass).held;
  room : length l.redists.confs ≡ length l.fn.redists.confs;
  pends : l.redists.pends ≡ l.fn.redists.pends;
}

abbrev pub decreases-loop-next : goal.decreases-loop-next
decreases-loop-next l = l.vcpus - l.next
