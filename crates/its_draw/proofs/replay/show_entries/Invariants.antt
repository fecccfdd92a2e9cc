use Rattle.std.proofs.Common.{◌≡◌, take}
use Rattle.trace_check.specs.Fields.{IsCounted, progress}
use Rattle.its_draw.specs.Replays.{lines, told}
use Rattle.its_draw.proofs.Shows.{Going}
use Rattle.its_draw.proofs.replay.show_entries.Given as goal

abbrev pub invariant-loop-line : goal.invariant-loop-line
invariant-loop-line l = record {
  shown_so_far : told l.shown.items ≡ lines (take l.line-index l.entries);
  counted : IsCounted l.cursor;
  run_so_far : Going l.fn.machine l.leg l.entries l.line-index l.shown.items l.machine (progress l.cursor);
}
