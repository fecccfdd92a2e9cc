use Rattle.std.proofs.Common.{◌≡◌, ◌++◌, drop}
use Rattle.std.specs.String.{string_bytes}
use Rattle.script_gen.specs.Summary as spec
use Rattle.script_gen.proofs.summary.summary_text.Given as goal

abbrev pub invariant-loop-vcpu : goal.invariant-loop-vcpu
invariant-loop-vcpu l = string_bytes l.out ++ spec.vcpu_lines l.vcpu (drop l.vcpu l.pending) ≡ spec.summary l.counts l.pending
