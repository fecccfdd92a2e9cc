use Rattle.std.proofs.Common.{◌≡◌, ◌-◌}
use Rattle.its_history.specs.Reading.{pending_from}
use Rattle.fit_answers.specs.ToldText.{left}
use Rattle.its_history.proofs.ReadLegs.{in_front}
use Rattle.fit_answers.proofs.left.Lines.pending_lists.Given as goal

abbrev pub invariant-loop-vcpu : goal.invariant-loop-vcpu
invariant-loop-vcpu l = pending_from 0 l.vcpus (left l.fn.self) ≡ in_front l.lists (pending_from l.vcpu (l.vcpus - l.vcpu) (left l.self))
