use Rattle.std.proofs.Common.{◌≡◌, ℕ, ◌||◌, ◌&&◌}
use Rattle.std.specs.Prelude.{nat_le, nat_lt}
use Rattle.dirty_log.specs.Listing.{is_in}
use Rattle.dirty_log.proofs.log.push_numbers.Given as goal

abbrev pub invariant-loop-number : goal.invariant-loop-number
invariant-loop-number l = (n : ℕ) → is_in n l.numbers.items ≡ (is_in n l.fn.numbers.items || (nat_le l.first n && nat_lt n l.number))
