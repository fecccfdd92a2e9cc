use Rattle.std.proofs.Common.{◌≡◌, ◌++◌, drop}
use Rattle.std.specs.String.{string_bytes}
use Rattle.its_history.specs.Report.{vcpu_lines_from}
use Rattle.its_history.proofs.report.push_vcpus.Given as goal

abbrev pub invariant-loop-vcpu : goal.invariant-loop-vcpu
invariant-loop-vcpu l = string_bytes l.out ++ vcpu_lines_from l.vcpu (drop l.vcpu l.pending) ≡ string_bytes l.fn.out ++ vcpu_lines_from 0 l.pending
