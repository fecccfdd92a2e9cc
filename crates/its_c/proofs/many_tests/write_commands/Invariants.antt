use Rattle.std.specs.Prelude.{⊤}
use Rattle.its_c.proofs.many_tests.write_commands.Given as goal

abbrev pub invariant-loop-word : goal.invariant-loop-word
invariant-loop-word l = ⊤
