use Rattle.std.proofs.Common.{◌-◌, arith}
use Rattle.its_types.proofs.Powers.{byte_power}
use Rattle.its_types.proofs.machine.Shape.pending_bytes.Goals as goal

pub returns-clause-at_least : goal.returns-clause-at_least
returns-clause-at_least c = (byte_power (c.from.result - 3) c.pow.result c.pow.ensures (omega arith) (omega arith)).0

pub returns-clause-at_most : goal.returns-clause-at_most
returns-clause-at_most c = (byte_power (c.from.result - 3) c.pow.result c.pow.ensures (omega arith) (omega arith)).1
