use Rattle.owned_machine.specs.Migrations.{AreRead}
use Rattle.owned_machine.specs.Placed.{parts_in}
use Rattle.owned_machine.proofs.migrations.registers_of.Given as goal

abbrev pub invariant-loop-vcpu : goal.invariant-loop-vcpu
invariant-loop-vcpu l = AreRead (parts_in l.parts) l.registers.items l.vcpu
