use Rattle.std.proofs.Common.{◌≡◌}
use Rattle.its_draw.proofs.scene.Scene.add_walls.Given as goal

abbrev pub invariant-loop-line : goal.invariant-loop-line
invariant-loop-line l = record {
  same_calls : l.self.calls.items ≡ l.fn.self.calls.items;
  same_machine : l.self.machine ≡ l.fn.self.machine;
}
