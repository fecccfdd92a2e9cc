use Rattle.std.proofs.Common.{◌≡◌, ◌++◌, length}
use Rattle.std.specs.Prelude.{replicate}
use Rattle.std.specs.String.{string_bytes}
use Rattle.fit_answers.specs.Reached.{reached_lines}
use Rattle.fit_answers.proofs.reached.push_reached.Given as goal

abbrev pub invariant-loop-rest : goal.invariant-loop-rest
invariant-loop-rest l =
    string_bytes l.out ++ reached_lines l.told l.reached.front.items (length l.reached.calls.items) l.rest
    ≡ string_bytes l.initial.out ++ reached_lines l.told (replicate (length l.told) 0) 0 l.fn.order

abbrev pub decreases-loop-rest : goal.decreases-loop-rest
decreases-loop-rest l = length l.rest
