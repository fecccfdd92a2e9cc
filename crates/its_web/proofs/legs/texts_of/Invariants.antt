use Rattle.std.proofs.Common.{◌≡◌, take}
use Rattle.trace_check.specs.Differences.{pending_texts}
use Rattle.its_web.proofs.legs.texts_of.Given as goal

abbrev pub invariant-loop-vcpu : goal.invariant-loop-vcpu
invariant-loop-vcpu l = l.texts ≡ take l.vcpu (pending_texts l.machine)
