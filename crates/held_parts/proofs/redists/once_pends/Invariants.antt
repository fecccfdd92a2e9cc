use Rattle.std.proofs.Common.{◌≡◌, ◌≤◌, ◌-◌, length}
use Rattle.lpi_pending.specs.InHand.{HasLpisOfPend}
use Rattle.its_turns.specs.Machines.{setup, view, IsOf}
use Rattle.held_parts.specs.Redists.{pend_held, IsPendIn}
use Rattle.held_parts.specs.Once.{TakesAtOnce}
use Rattle.held_parts.proofs.RedistLoops.{AreTaken}
use Rattle.held_parts.proofs.redists.once_pends.Given as goal

abbrev pub invariant-loop-next : goal.invariant-loop-next
invariant-loop-next l = record {
  of : IsOf l.machine l.pass;
  takes : TakesAtOnce (IsPendIn l.set) (view l.fn.pass) (view l.pass);
  within : l.next ≤ l.vcpus;
  taken : AreTaken pend_held (HasLpisOfPend (setup l.machine).start.layout.shape) (setup l.machine) l.set l.next l.redists.pends
      (view l.fn.pass).held (view l.pass).held;
  room : length l.redists.pends ≡ length l.fn.redists.pends;
  confs : l.redists.confs ≡ l.fn.redists.confs;
}

abbrev pub decreases-loop-next : goal.decreases-loop-next
decreases-loop-next l = l.vcpus - l.next
