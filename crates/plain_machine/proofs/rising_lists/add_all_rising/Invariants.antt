use Rattle.std.proofs.Common.{◌≡◌, vec_len}
use Rattle.its_types.specs.Lpis.{with_lpis}
use Rattle.plain_machine.proofs.rising_lists.add_all_rising.Given as goal

abbrev pub invariant-loop-number : goal.invariant-loop-number
invariant-loop-number l = with_lpis l.numbers.items l.list.items ≡ with_lpis l.fn.numbers.items l.initial.list.items

abbrev pub decreases-loop-number : goal.decreases-loop-number
decreases-loop-number l = vec_len l.numbers
