use Rattle.std.proofs.Common.{◌≡◌, take}
use Rattle.trace_check.specs.Differences.{pending_texts}
use Rattle.its_fit.proofs.recording.is_pending.Given as goal

abbrev pub invariant-loop-vcpu : goal.invariant-loop-vcpu
invariant-loop-vcpu l = take l.vcpu l.told ≡ take l.vcpu (pending_texts l.machine)
