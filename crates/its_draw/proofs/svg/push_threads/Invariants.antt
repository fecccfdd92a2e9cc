use Rattle.std.proofs.Common.{◌≡◌, ◌++◌}
use Rattle.std.specs.String.{string_bytes}
use Rattle.its_draw.specs.Svg.{threads_text}
use Rattle.its_draw.proofs.svg.push_threads.Given as goal

abbrev pub invariant-loop-thread : goal.invariant-loop-thread
invariant-loop-thread l = string_bytes l.out ≡ string_bytes l.initial.out ++ threads_text l.frame l.thread
