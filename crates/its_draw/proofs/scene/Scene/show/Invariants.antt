use Rattle.std.proofs.Common.{◌≡◌, ◌++◌, take}
use Rattle.its_draw.specs.Replays.{all_lines, told}
use Rattle.its_draw.proofs.Legs.{Showing}
use Rattle.its_draw.proofs.scene.Scene.show.Given as goal

abbrev pub invariant-loop-index : goal.invariant-loop-index
invariant-loop-index l = record {
  told_so_far : told l.self.calls.items ≡ told l.fn.self.calls.items ++ all_lines (take l.index l.trace.legs);
  run_so_far : Showing l.fn.self.machine l.script l.trace.legs l.fn.self.calls.items l.index l.self.calls.items l.self.machine;
}
