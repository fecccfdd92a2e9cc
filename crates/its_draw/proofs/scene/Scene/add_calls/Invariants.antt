use Rattle.std.proofs.Common.{◌≡◌}
use Rattle.its_draw.proofs.scene.Scene.add_calls.Given as goal

abbrev pub invariant-loop-one : goal.invariant-loop-one
invariant-loop-one l = record {
  same_calls : l.self.calls.items ≡ l.fn.self.calls.items;
  same_machine : l.self.machine ≡ l.fn.self.machine;
}
