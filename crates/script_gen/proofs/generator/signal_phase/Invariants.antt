use Rattle.std.proofs.Common.{◌≡◌, ◌-◌, ◌++◌, map}
use Rattle.std.specs.List.{range_with_len}
use Rattle.script_gen.specs.Generated as spec
use Rattle.script_gen.proofs.generator.signal_phase.Given as goal

abbrev pub invariant-loop-dev : goal.invariant-loop-dev
invariant-loop-dev l =
    l.phase ++ map (spec.signal_thread l.signals) (range_with_len l.dev (l.dev-end - l.dev)) ≡ map (spec.signal_thread l.signals) (range_with_len 1 l.threads)
