use Rattle.std.proofs.Common.{◌≡◌, ◌<◌, length}
use Rattle.standing_states.specs.Laws.{bases_to_restore}
use Rattle.table_restore.proofs.Restored.{AreRestoredBelow}
use Rattle.table_restore.proofs.redists.redists_of.Given as goal

abbrev pub invariant-loop-vcpu : goal.invariant-loop-vcpu
invariant-loop-vcpu l = record {
  below : AreRestoredBelow l.layout.shape l.memory (bases_to_restore l.layout l.gicr) l.redists l.vcpu;
  many : 0 < l.vcpu → length (bases_to_restore l.layout l.gicr) ≡ l.layout.shape.vcpus;
}
