use Rattle.std.specs.Prelude.{⊤}
use Rattle.its_c.proofs.window_tests.map_there.Given as goal

abbrev pub invariant-loop-word : goal.invariant-loop-word
invariant-loop-word l = ⊤
