-- One thread after another, from 1 on.
use Rattle.std.proofs.Common.{◌+◌, ◌-◌, ◌++◌, map, ap, ◌∙◌}
use Rattle.std.specs.List.{range_with_len}
use Rattle.script_gen.specs.Generated as spec
use Rattle.script_gen.proofs.Lists.{items_none, items_more}
use Rattle.script_gen.proofs.generator.signal_phase.Goals as goal

pub loop-dev-init : goal.loop-dev-init
loop-dev-init c =
    ap (λ phase. phase ++ map (spec.signal_thread c.args.signals) (range_with_len 1 (c.args.threads + 1 - 1))) c.new-phase.ensures
    ∙ items_none (spec.signal_thread c.args.signals) c.args.threads

pub loop-dev-preserved : goal.loop-dev-preserved
loop-dev-preserved c =
    items_more (spec.signal_thread c.args.signals) c.push.new.self c.loop-dev.phase (map (spec.signal_thread c.args.signals) (range_with_len 1 c.args.threads))
    c.in_ok-signal_thread.field-0 c.loop-dev.dev (c.args.threads + 1) c.loop-dev-test.true c.in_ok-signal_thread.ensures c.in_ok-push.ensures.ok
    c.loop-dev.invariant
