use Rattle.std.proofs.Common.{◌≢◌, ◌/◌, ◌^◌, arith}
use Rattle.lpi_config.proofs.LowestBits.{bit_found, no_bit}
use Rattle.lpi_pending.proofs.first_bit.bit_from.Goals as goal

pub returns-then-left-eq0 : goal.returns-then-left-eq0
returns-then-left-eq0 c = no_bit c.args.word c.args.from c.if-left-eq0.true

pub returns-else-left-eq0 : goal.returns-else-left-eq0
returns-else-left-eq0 c =
    let some : c.args.word / 2 ^ c.args.from ≢ 0 = omega (arith, c.if-left-eq0.false) in
    bit_found c.args.word c.args.from (omega arith) some
