use Rattle.std.proofs.Common.{◌≡◌, ◌≤◌, List, length}
use Rattle.lpi_pending.specs.Pend.{Pend as PendInHand}
use Rattle.its_steps.specs.Contents.{Held}
use Rattle.its_steps.specs.Parts.{vcpu_count}
use Rattle.its_turns.specs.Machines.{setup, view, IsOf}
use Rattle.held_parts.specs.Redists.{pends_held}
use Rattle.held_parts.specs.Taking.{holding}
use Rattle.held_parts.proofs.RedistLoops.{AreLeft}
use Rattle.held_parts.proofs.pends.put_first_pends.Given as goal

abbrev pub invariant-loop-vcpu : goal.invariant-loop-vcpu
invariant-loop-vcpu l = record {
  of : IsOf l.machine l.pass;
  home : (before : List Held) → (view l.fn.pass).held ≡ pends_held l.fn.redists l.count before → view l.pass
      ≡ holding (view l.fn.pass) (pends_held l.fn.redists l.end before);
  within : l.end ≤ vcpu_count (setup l.machine);
  below : l.end ≤ l.count;
  left : AreLeft PendInHand l.end l.fn.redists.pends l.redists.pends;
  room : length l.redists.pends ≡ length l.fn.redists.pends;
  confs : l.redists.confs ≡ l.fn.redists.confs;
}

abbrev pub decreases-loop-vcpu : goal.decreases-loop-vcpu
decreases-loop-vcpu l = l.end
