-- One list after another.
use Rattle.script_gen.specs.Summary.{with_lists, none}
use Rattle.script_gen.proofs.Counted.{IsCounted, next_counted}
use Rattle.script_gen.proofs.counts.Counts.of.Goals as goal

pub loop-list-preserved : goal.loop-list-preserved
loop-list-preserved c =
    let all = with_lists c.args.lists.now none in
    let before : IsCounted c.args.lists.now c.loop-list.list-index all c.loop-list.counts = record {
      room = c.loop-list.invariant.room;
      counts = c.loop-list.invariant.counts;
    } in
    let now = next_counted c.args.lists.now c.loop-list.list-index c.list-item.result all c.loop-list.counts c.add_list.new.self c.loop-list-test.true
    c.list-item.is c.add_list.ensures before in
    record { room = now.room; counts = now.counts }
