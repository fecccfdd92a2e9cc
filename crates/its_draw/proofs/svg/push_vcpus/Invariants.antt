use Rattle.std.proofs.Common.{◌≡◌, ◌++◌}
use Rattle.std.specs.String.{string_bytes}
use Rattle.its_draw.specs.Svg.{vcpus_text}
use Rattle.its_draw.proofs.svg.push_vcpus.Given as goal

abbrev pub invariant-loop-vcpu : goal.invariant-loop-vcpu
invariant-loop-vcpu l = string_bytes l.out ≡ string_bytes l.initial.out ++ vcpus_text l.frame l.vcpu
