use Rattle.std.proofs.Common.{arith}
use Rattle.lpi_config.proofs.Chunks.{enabled_more}
use Rattle.lpi_config.proofs.enabled.put_enabled_bits.Goals as goal

pub loop-at-preserved : goal.loop-at-preserved
loop-at-preserved c =
    enabled_more c.args.bytes.now c.as_chunks.result.0.now c.loop-at.words c.loop-at.at c.enabled_word.result c.as_chunks.ensures.front
    (omega arith) (omega arith) c.loop-at.invariant c.enabled_word.ensures
