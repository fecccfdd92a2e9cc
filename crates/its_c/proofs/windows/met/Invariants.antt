use Rattle.std.proofs.Common.{◌≡◌, drop}
use Rattle.its_c.specs.Windows.{met}
use Rattle.its_c.proofs.windows.met.Given as goal

abbrev pub invariant-loop-its : goal.invariant-loop-its
invariant-loop-its l = met l.its (l.base.0, l.len) (drop l.its l.translators) ≡ met 0 (l.base.0, l.len) l.translators
