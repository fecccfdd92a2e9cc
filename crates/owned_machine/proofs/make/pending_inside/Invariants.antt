use Rattle.std.proofs.Common.{◌≡◌, drop}
use Rattle.its_plain.specs.Machine as spec
use Rattle.owned_machine.proofs.make.pending_inside.Given as goal

abbrev pub invariant-loop-vcpu : goal.invariant-loop-vcpu
invariant-loop-vcpu l = spec.pending_inside l.memory l.size l.vcpu (drop l.vcpu l.bases) ≡ spec.pending_inside l.memory l.size 0 l.bases
