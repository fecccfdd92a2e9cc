use Rattle.std.proofs.Common.{◌≡◌, take, map}
use Rattle.its_plain.specs.Machine as spec
use Rattle.plain_machine.proofs.make.described.Given as goal

abbrev pub invariant-loop-table : goal.invariant-loop-table
invariant-loop-table l = l.redistributors.items ≡ map (spec.idle_redistributor l.config) (map (spec.described_bases l.base) (take l.table-index l.pending))
