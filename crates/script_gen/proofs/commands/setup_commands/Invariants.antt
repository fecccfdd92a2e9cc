use Rattle.std.proofs.Common.{◌≡◌, ◌-◌, ◌++◌}
use Rattle.std.specs.List.{flat_map, range_with_len}
use Rattle.script_gen.specs.Commands as spec
use Rattle.script_gen.proofs.commands.setup_commands.Given as goal

abbrev pub invariant-loop-dev : goal.invariant-loop-dev
invariant-loop-dev l = l.out.items ++ flat_map spec.device_commands (range_with_len l.dev (l.dev-end - l.dev)) ≡ spec.setup_commands l.devices
