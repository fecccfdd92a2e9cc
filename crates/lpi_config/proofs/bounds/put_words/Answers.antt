use Rattle.std.proofs.Common.{◌∙◌, arith}
use Rattle.lpi_config.specs.Bounds.{least_of_word}
use Rattle.lpi_config.proofs.LeastPriorities.{set_more, word_by_bytes}
use Rattle.lpi_config.proofs.bounds.put_words.Goals as goal

pub loop-at-preserved : goal.loop-at-preserved
loop-at-preserved c =
    set_more c.loop-at.words c.loop-at.at c.least_rank.result (least_of_word c.args.bytes.now) (omega arith) c.loop-at.invariant
    (c.least_rank.ensures ∙ word_by_bytes c.args.bytes.now c.bytes_at.result.now c.loop-at.at c.bytes_at.ensures)
