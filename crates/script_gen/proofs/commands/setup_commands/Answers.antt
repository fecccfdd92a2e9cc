-- One device after another, from 1 on.
use Rattle.std.proofs.Common.{refl, map, ◌+◌}
use Rattle.std.specs.List.{range_with_len}
use Rattle.script_gen.specs.Commands as spec
use Rattle.script_gen.proofs.Lists.{pieces_none, pieces_more}
use Rattle.script_gen.proofs.commands.setup_commands.Goals as goal

pub loop-dev-init : goal.loop-dev-init
unfolding spec.setup_commands
loop-dev-init c =
    pieces_none spec.device_commands c.in_ok-out.out.items (map spec.map_collection (range_with_len 0 4)) (spec.setup_commands c.args.devices) c.args.devices
    c.in_ok-out.ensures refl

pub loop-dev-preserved : goal.loop-dev-preserved
loop-dev-preserved c =
    pieces_more spec.device_commands c.push_device.new.out.items c.loop-dev.out.items (spec.setup_commands c.args.devices) c.loop-dev.dev (c.args.devices + 1)
    c.loop-dev-test.true c.in_ok-push_device.ensures c.loop-dev.invariant
