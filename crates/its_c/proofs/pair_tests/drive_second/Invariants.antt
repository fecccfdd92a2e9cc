use Rattle.std.proofs.Common.{◌≤◌}
use Rattle.std.specs.Prelude.{⊤}
use Rattle.its_c.proofs.pair_tests.drive_second.Given as goal

abbrev pub invariant-loop-offset : goal.invariant-loop-offset
invariant-loop-offset l = ⊤

abbrev pub invariant-loop-word : goal.invariant-loop-word
invariant-loop-word l = ⊤

-- no more ran than were taken
abbrev pub invariant-loop : goal.invariant-loop
invariant-loop l = l.ran ≤ l.counter
