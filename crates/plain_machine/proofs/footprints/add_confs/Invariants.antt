use Rattle.std.proofs.Common.{◌≡◌, ◌++◌}
use Rattle.its_plain.specs.Parts.{confs_below}
use Rattle.plain_machine.proofs.footprints.add_confs.Given as goal

abbrev pub invariant-loop-vcpu : goal.invariant-loop-vcpu
invariant-loop-vcpu l = l.found.items ≡ l.initial.found.items ++ confs_below l.vcpu
