use Rattle.std.proofs.Common.{◌≡◌, ◌++◌}
use Rattle.std.specs.String.{string_bytes}
use Rattle.its_explain.specs.Unmapped.{elsewhere_text}
use Rattle.its_explain.proofs.unmapped.push_elsewhere.Given as goal

abbrev pub invariant-loop-vcpu : goal.invariant-loop-vcpu
invariant-loop-vcpu l = string_bytes l.out ≡ string_bytes l.initial.out ++ elsewhere_text l.machine l.intid.0 l.vcpu
