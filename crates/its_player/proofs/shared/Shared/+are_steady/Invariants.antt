use Rattle.std.proofs.Common.{length}
use Rattle.its_player.proofs.shared.Shared.+are_steady.Given as goal

abbrev pub decreases-are_steady : goal.decreases-are_steady
decreases-are_steady l = length l.before.now
