use Rattle.std.proofs.Common.{◌≡◌}
use Rattle.its_draw.proofs.scene.Scene.add_pending.Given as goal

abbrev pub invariant-loop-vcpu : goal.invariant-loop-vcpu
invariant-loop-vcpu l = record {
  same_calls : l.self.calls.items ≡ l.fn.self.calls.items;
  same_machine : l.self.machine ≡ l.fn.self.machine;
}
