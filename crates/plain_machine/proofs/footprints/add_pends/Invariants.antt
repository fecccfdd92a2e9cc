use Rattle.std.proofs.Common.{◌≡◌, ◌++◌}
use Rattle.its_plain.specs.Parts.{pends_below}
use Rattle.plain_machine.proofs.footprints.add_pends.Given as goal

abbrev pub invariant-loop-vcpu : goal.invariant-loop-vcpu
invariant-loop-vcpu l = l.found.items ≡ l.initial.found.items ++ pends_below l.vcpu
