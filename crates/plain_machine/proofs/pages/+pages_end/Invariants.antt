use Rattle.std.proofs.Common.{length}
use Rattle.plain_machine.proofs.pages.+pages_end.Given as goal

abbrev pub decreases-pages_end : goal.decreases-pages_end
decreases-pages_end l = length l.windows.now
