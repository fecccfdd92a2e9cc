use Rattle.std.proofs.Common.{◌≡◌, length}
use Rattle.its_bench.proofs.shared.tables.Given as goal

abbrev pub invariant-loop-vcpu : goal.invariant-loop-vcpu
invariant-loop-vcpu l = length l.pending ≡ l.vcpu
