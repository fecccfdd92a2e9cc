use Rattle.std.proofs.Common.{arith}
use Rattle.lpi_pending.proofs.Bytes.{bits-with_byte}
use Rattle.lpi_pending.proofs.pending.with_byte.Goals as goal

pub returns : goal.returns
returns c i lt = rw c.from.ensures (bits-with_byte c.args.word c.args.byte c.args.at i (omega arith) c.requires lt)
