use Rattle.std.proofs.Common.{length}
use Rattle.its_player.proofs.shared.Shared.+have_fills_alone.Given as goal

abbrev pub decreases-have_fills_alone : goal.decreases-have_fills_alone
decreases-have_fills_alone l = length l.owed.now
