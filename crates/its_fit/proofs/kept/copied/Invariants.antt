use Rattle.std.proofs.Common.{◌≡◌, take}
use Rattle.its_fit.proofs.kept.copied.Given as goal

abbrev pub invariant-loop-made : goal.invariant-loop-made
invariant-loop-made l = l.all.items ≡ take l.made-index l.log
