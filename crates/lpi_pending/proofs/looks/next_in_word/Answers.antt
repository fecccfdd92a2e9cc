use Rattle.std.proofs.Common.{◌+◌, ◌*◌, ltb}
use Rattle.its_types.specs.Lpis.{priority_of}
use Rattle.lpi_pending.proofs.FirstOfBoth.{first_past}
use Rattle.lpi_pending.proofs.looks.next_in_word.Goals as goal

pub returns : goal.returns
returns c =
    first_past c.args.ready c.word_below.result (λ k. ltb (priority_of c.args.config.now.bytes (8192 + 64 * c.args.at + k)) c.args.limit) c.args.from
    c.in-Some.first c.bit_from-2.result c.in-Some.ensures.from c.in-Some.ensures.before c.word_below.ensures c.bit_from-2.ensures
