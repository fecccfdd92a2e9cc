use Rattle.std.proofs.Common.{length}
use Rattle.its_player.proofs.shared.Shared.+assembled.Given as goal

abbrev pub decreases-assembled : goal.decreases-assembled
decreases-assembled l = length l.held.now
