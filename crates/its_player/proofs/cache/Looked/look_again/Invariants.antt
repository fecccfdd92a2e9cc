use Rattle.std.proofs.Common.{◌≡◌, drop}
use Rattle.its_steps.specs.World.{looked_in}
use Rattle.its_player.specs.Shared.{looked_as}
use Rattle.its_player.proofs.cache.Looked.look_again.Given as goal

abbrev pub invariant-loop-x : goal.invariant-loop-x
invariant-loop-x l = record {
  same : l.self ≡ l.initial.self;
  rest : looked_in l.held (looked_as l.initial.self) ≡ looked_in (drop l.x-index l.held)
      (looked_as l.initial.self);
}
