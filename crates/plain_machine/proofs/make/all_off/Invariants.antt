use Rattle.std.proofs.Common.{◌≡◌, replicate}
use Rattle.its_types.specs.Lpis.{no_bases}
use Rattle.gicr_regs.specs.Redistributors.{off_redistributor}
use Rattle.plain_machine.proofs.make.all_off.Given as goal

abbrev pub invariant-loop : goal.invariant-loop
invariant-loop l = l.redistributors.items ≡ replicate l.counter (off_redistributor l.shape no_bases)
