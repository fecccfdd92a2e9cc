use Rattle.std.proofs.Common.{arith}
use Rattle.lpi_config.proofs.Chunks.{chunk_bytes}
use Rattle.lpi_config.proofs.least.bytes_at.Goals as goal

pub returns : goal.returns
returns c k lt = chunk_bytes c.args.bytes.now c.as_chunks.result.0.now c.args.at k c.as_chunks.ensures.front (omega (arith, c.requires)) lt
