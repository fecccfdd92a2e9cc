-- One call after another, from 0 on.
use Rattle.std.proofs.Common.{map}
use Rattle.std.specs.List.{range_with_len}
use Rattle.script_gen.specs.Generated as spec
use Rattle.script_gen.proofs.Lists.{items_more}
use Rattle.script_gen.proofs.generator.signal_thread.Goals as goal

pub loop-i-preserved : goal.loop-i-preserved
loop-i-preserved c =
    items_more (spec.signal_call c.args.dev) c.push.new.self c.loop-i.calls (map (spec.signal_call c.args.dev) (range_with_len 0 c.args.signals))
    c.signal_call.result c.loop-i.i c.args.signals c.loop-i-test.true c.signal_call.ensures c.in_ok-push.ensures.ok c.loop-i.invariant
