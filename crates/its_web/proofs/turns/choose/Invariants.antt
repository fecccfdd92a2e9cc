use Rattle.std.proofs.Common.{◌≡◌, ◌<◌, ℕ, None}
use Rattle.trace_check.specs.Cursors.{call_of}
use Rattle.its_web.proofs.turns.choose.Given as goal

abbrev pub invariant-loop-thread-2 : goal.invariant-loop-thread-2
invariant-loop-thread-2 l = (i : ℕ) → i < l.thread → call_of l.threads l.made i ≡ None
