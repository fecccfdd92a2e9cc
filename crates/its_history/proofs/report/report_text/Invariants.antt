use Rattle.std.proofs.Common.{◌≡◌, ◌+◌, ◌++◌, drop}
use Rattle.std.specs.String.{string_bytes}
use Rattle.its_history.specs.Report.{legs_from}
use Rattle.its_history.proofs.report.report_text.Given as goal

abbrev pub invariant-loop-leg : goal.invariant-loop-leg
invariant-loop-leg l = record {
  counted : l.number ≡ l.leg-index + 1;
  text : string_bytes l.out ++ legs_from l.number (drop l.leg-index l.trace.legs) ≡ legs_from 1 l.trace.legs;
}
