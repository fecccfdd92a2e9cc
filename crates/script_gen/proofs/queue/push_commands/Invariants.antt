use Rattle.std.proofs.Common.{◌≡◌, ◌+◌, ◌++◌, drop}
use Rattle.script_gen.specs.Generated as spec
use Rattle.script_gen.proofs.queue.push_commands.Given as goal

abbrev pub invariant-loop-command : goal.invariant-loop-command
invariant-loop-command l = record {
  place : l.place ≡ l.k + l.command-index;
  calls : l.calls ++ spec.queued l.place (drop l.command-index l.commands) ≡ l.initial.calls ++ spec.queued l.k l.commands;
}
