use Rattle.std.proofs.Common.{◌+◌, ◌*◌, ltb}
use Rattle.lpi_config.specs.Bounds.{least_priority}
use Rattle.lpi_pending.proofs.FirstOfBoth.{first_past}
use Rattle.lpi_pending.proofs.looks.next_in_group.Goals as goal

pub returns : goal.returns
returns c =
    first_past c.args.used c.words_below.result
    (λ k. ltb (least_priority c.args.config.now.bytes (8192 + 64 * (64 * c.args.group + k)) 64) c.args.limit) c.args.from
    c.in-Some.first c.bit_from-2.result c.in-Some.ensures.from c.in-Some.ensures.before c.words_below.ensures c.bit_from-2.ensures
