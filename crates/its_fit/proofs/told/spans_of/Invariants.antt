use Rattle.std.proofs.Common.{◌≡◌, map, take}
use Rattle.its_fit.proofs.told.spans_of.Given as goal

abbrev pub invariant-loop-call : goal.invariant-loop-call
invariant-loop-call l = l.spans.items ≡ map (λ a. a.span) (take l.call-index l.calls)
