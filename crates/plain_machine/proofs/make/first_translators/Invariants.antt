use Rattle.std.proofs.Common.{◌≡◌, replicate}
use Rattle.gits_regs.specs.Registers.{reset}
use Rattle.its_types.specs.Maps.{no_maps}
use Rattle.plain_machine.proofs.make.first_translators.Given as goal

abbrev pub invariant-loop : goal.invariant-loop
invariant-loop l = l.translators.items ≡ replicate l.counter (record { regs = reset l.desc.shape.dev_bits; maps = no_maps })
