use Rattle.std.proofs.Common.{◌≡◌, ◌++◌, take}
use Rattle.std.specs.List.{flat_map}
use Rattle.std.specs.String.{string_bytes}
use Rattle.its_draw.specs.Calls.{call_text}
use Rattle.its_draw.proofs.svg.push_calls.Given as goal

abbrev pub invariant-loop-shown : goal.invariant-loop-shown
invariant-loop-shown l = string_bytes l.out ≡ string_bytes l.initial.out ++ flat_map (call_text l.frame) (take l.shown-index l.calls)
