use Rattle.std.proofs.Common.{◌≡◌, ◌+◌}
use Rattle.std.specs.String.{string_bytes}
use Rattle.its_answers.proofs.Scripts.{HasRunTo}
use Rattle.its_web.proofs.legs.run.Given as goal

abbrev pub invariant-loop-leg : goal.invariant-loop-leg
invariant-loop-leg l = record {
  number : l.number ≡ l.leg-index + 1;
  ran : HasRunTo l.script l.fn.machine l.leg-index l.machine (string_bytes l.report);
}
