use Rattle.std.specs.FinMap.{entries}
use Rattle.its_numbers.specs.Mapped as spec
use Rattle.its_numbers.proofs.ToldFrom.{IsTold}
use Rattle.its_numbers.proofs.mapped.put_devices.Given as goal

abbrev pub invariant-loop-dev : goal.invariant-loop-dev
invariant-loop-dev l = record {
  can_next : (goal.iterator-loop-dev).can_next l.dev-iterator;
  is_finite : (goal.iterator-loop-dev).is_finite l.dev-iterator;
  told : IsTold spec.device_out l.fn.from (entries l.fn.maps.maps.devices) l.dev-iterator l.initial.list l.list l.at;
}
