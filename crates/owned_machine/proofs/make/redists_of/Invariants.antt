use Rattle.owned_machine.specs.Start.{AreFirst}
use Rattle.owned_machine.proofs.make.redists_of.Given as goal

abbrev pub invariant-loop-vcpu : goal.invariant-loop-vcpu
invariant-loop-vcpu l = AreFirst l.shape l.memory l.tables l.redists l.vcpu
