use Rattle.trace_check.specs.Fields.{IsCounted, progress}
use Rattle.report_places.proofs.Follows.{Going}
use Rattle.report_places.proofs.place.follow.Given as goal

abbrev pub invariant-loop-line : goal.invariant-loop-line
invariant-loop-line l = record {
  counted : IsCounted l.cursor;
  run_so_far : Going l.fn.machine l.leg l.entries l.line-index l.machine (progress l.cursor);
}
