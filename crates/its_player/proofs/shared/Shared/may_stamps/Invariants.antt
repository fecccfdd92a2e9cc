use Rattle.std.proofs.Common.{ℕ, ◌<◌}
use Rattle.its_steps.specs.MayCall.{MayStamp}
use Rattle.its_player.specs.Shared.{setup_of}
use Rattle.its_player.proofs.shared.Shared.may_stamps.Given as goal

abbrev pub invariant-loop-its : goal.invariant-loop-its
invariant-loop-its l = (k : ℕ) → k < l.its → MayStamp (setup_of l.self) l.commit l.held l.owed k
