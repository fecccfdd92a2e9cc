use Rattle.std.proofs.Common.{◌≡◌, ◌++◌, drop}
use Rattle.its_plain.specs.Regions as spec
use Rattle.plain_machine.proofs.save.add_configurations.Given as goal

abbrev pub invariant-loop-vcpu : goal.invariant-loop-vcpu
invariant-loop-vcpu l = l.areas.items ++ spec.areas_from (spec.config_area l.shape) l.vcpu (drop l.vcpu l.redists) ≡ l.initial.areas.items ++ spec.areas_from
    (spec.config_area l.shape) 0 l.redists
