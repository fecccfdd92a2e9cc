use Rattle.std.proofs.Common.{◌≡◌, ◌≢◌, ◌/◌, ◌%◌, ◌^◌, arith}
use Rattle.lpi_config.proofs.LeastPriorities.{is_block, block_found, block_none}
use Rattle.lpi_config.proofs.bounds.next_below.Goals as goal

pub returns-then-left-ne0 : goal.returns-then-left-ne0
returns-then-left-ne0 c =
    let block = is_block c.args.numbers.now c.bytes_at.result.now c.args.limit c.loop-at.at c.numbers_below.result c.bytes_at.ensures c.numbers_below.ensures
    (omega arith) in
    let some : c.numbers_below.result / 2 ^ (c.loop-at.at % 64) ≢ 0 = omega (arith, c.if-left-ne0.true) in
    block_found c.args.numbers.now c.args.limit c.args.from c.loop-at.at c.numbers_below.result block some c.requires.blocks c.loop-at-test.true
    c.loop-at.invariant.from c.loop-at.invariant.none

pub loop-at-preserved : goal.loop-at-preserved
loop-at-preserved c =
    let block = is_block c.args.numbers.now c.bytes_at.result.now c.args.limit c.loop-at.at c.numbers_below.result c.bytes_at.ensures c.numbers_below.ensures
    (omega arith) in
    let none : c.numbers_below.result / 2 ^ (c.loop-at.at % 64) ≡ 0 = omega (arith, c.if-left-ne0.false) in
    record {
      from = omega (arith, c.loop-at.invariant.from);
      none = block_none c.args.numbers.now c.args.limit c.args.from c.loop-at.at c.numbers_below.result block none c.loop-at.invariant.none;
    }
