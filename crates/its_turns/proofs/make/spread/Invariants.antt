use Rattle.std.proofs.Common.{◌≡◌}
use Rattle.its_turns.specs.Opening.{apart}
use Rattle.its_turns.proofs.make.spread.Given as goal

abbrev pub invariant-loop-value : goal.invariant-loop-value
invariant-loop-value l = l.slots.items ≡ apart l.yielded
