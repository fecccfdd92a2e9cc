use Rattle.std.proofs.Common.{◌≡◌, ◌≤◌, drop, length}
use Rattle.owned_machine.specs.Stale.{ArePut}
use Rattle.owned_machine.proofs.stale.put_sets.Given as goal

-- those that aren't left are put
abbrev pub invariant-loop-pending : goal.invariant-loop-pending
invariant-loop-pending l = record {
  can_next : (goal.iterator-loop-pending).can_next l.pending-iterator;
  is_finite : (goal.iterator-loop-pending).is_finite l.pending-iterator;
  within : l.vcpu ≤ length l.fn.sets.items;
  left : l.pending-iterator.rest.items ≡ drop l.vcpu l.fn.sets.items;
  put : ArePut l.fn.redists l.fn.sets.items l.vcpu l.redists;
}
