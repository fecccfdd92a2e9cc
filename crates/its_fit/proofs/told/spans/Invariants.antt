use Rattle.std.proofs.Common.{◌≡◌, map, take}
use Rattle.its_fit.proofs.told.spans.Given as goal

abbrev pub invariant-loop-calls : goal.invariant-loop-calls
invariant-loop-calls l = l.all.items ≡ map (λ calls. map (λ a. a.span) calls) (take l.calls-index l.threads)
