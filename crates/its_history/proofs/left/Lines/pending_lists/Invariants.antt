use Rattle.std.proofs.Common.{◌≡◌, ◌-◌}
use Rattle.its_history.specs.Reading.{left, pending_from}
use Rattle.its_history.proofs.ReadLegs.{in_front}
use Rattle.its_history.proofs.left.Lines.pending_lists.Given as goal

abbrev pub invariant-loop-vcpu : goal.invariant-loop-vcpu
invariant-loop-vcpu l = pending_from 0 l.vcpus (left l.fn.self) ≡ in_front l.lists (pending_from l.vcpu (l.vcpus - l.vcpu) (left l.self))
