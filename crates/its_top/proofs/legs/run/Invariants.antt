use Rattle.std.proofs.Common.{◌≡◌, ◌+◌}
use Rattle.std.specs.String.{string_bytes}
use Rattle.its_turns.specs.Machines.{setup}
use Rattle.its_top.specs.Played.{IsReady}
use Rattle.its_answers.proofs.Scripts.{HasRunTo}
use Rattle.its_top.proofs.legs.run.Given as goal

abbrev pub invariant-loop-leg : goal.invariant-loop-leg
invariant-loop-leg g l = record {
  number : l.number ≡ l.leg-index + 1;
  ready : IsReady l.script l.now;
  ran : HasRunTo l.script (setup l.fn.first.machine).start l.leg-index (setup l.now.machine).start (string_bytes l.report);
}
