use Rattle.std.proofs.Common.{◌≡◌, length}
use Rattle.its_fit.specs.Replays.{played}
use Rattle.its_fit.proofs.replay.replay.Given as goal

abbrev pub invariant-loop-rest : goal.invariant-loop-rest
invariant-loop-rest l = played l.calls l.machine l.rest ≡ played l.calls l.fn.machine l.fn.log

abbrev pub decreases-loop-rest : goal.decreases-loop-rest
decreases-loop-rest l = length l.rest
