use Rattle.std.proofs.Common.{arith}
use Rattle.its_types.proofs.Powers.{lpi_power}
use Rattle.its_types.proofs.machine.Shape.lpi_count.Goals as goal

pub overflow_sub-result : goal.overflow_sub-result
overflow_sub-result c =
    let bounds = lpi_power c.from.result c.pow.result c.pow.ensures (omega arith) (omega arith) in
    omega (arith, bounds.0)

pub returns-clause-at_least : goal.returns-clause-at_least
returns-clause-at_least c =
    let bounds = lpi_power c.from.result c.pow.result c.pow.ensures (omega arith) (omega arith) in
    omega (arith, bounds.0)

pub returns-clause-below : goal.returns-clause-below
returns-clause-below c =
    let bounds = lpi_power c.from.result c.pow.result c.pow.ensures (omega arith) (omega arith) in
    omega (arith, bounds.1)
