use Rattle.std.proofs.Common.{◌≡◌, ◌-◌, ◌++◌, map}
use Rattle.std.specs.List.{range_with_len}
use Rattle.script_gen.specs.Generated as spec
use Rattle.script_gen.proofs.generator.signal_thread.Given as goal

abbrev pub invariant-loop-i : goal.invariant-loop-i
invariant-loop-i l =
    l.calls ++ map (spec.signal_call l.dev) (range_with_len l.i (l.signals - l.i)) ≡ map (spec.signal_call l.dev) (range_with_len 0 l.signals)
