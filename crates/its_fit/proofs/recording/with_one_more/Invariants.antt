use Rattle.std.proofs.Common.{◌≡◌, take}
use Rattle.its_fit.proofs.recording.with_one_more.Given as goal

abbrev pub invariant-loop-earlier : goal.invariant-loop-earlier
invariant-loop-earlier l = l.more.items ≡ take l.earlier-index l.log
