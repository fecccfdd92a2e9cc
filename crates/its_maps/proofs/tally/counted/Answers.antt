use Rattle.std.proofs.Common.{◌<◌, rules, arith}
use Rattle.its_maps.proofs.Tallied.{count_so_far}
use Rattle.its_maps.proofs.tally.counted.Goals as goal

pub overflow_add-index_mut : goal.overflow_add-index_mut
overflow_add-index_mut c =
    let below : c.from.result < 65536 = search rules in
    let most = count_so_far c.loop-number.counts.items c.args.icids.now c.loop-number.number-index c.from.result c.index_mut.result.now
    c.loop-number.invariant.table c.loop-number.invariant.counts below c.index_mut.ensures.value in
    omega (arith, most)
