use Rattle.std.proofs.Common.{◌≡◌, [], drop}
use Rattle.its_plain.specs.Machine.{all_new}
use Rattle.plain_machine.proofs.devices_fit.all_new.Given as goal

abbrev pub invariant-loop-n : goal.invariant-loop-n
invariant-loop-n l = all_new l.before.items l.n (drop l.n l.lines) ≡ all_new [] 0 l.lines
