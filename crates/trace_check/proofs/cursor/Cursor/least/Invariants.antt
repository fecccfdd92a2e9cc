use Rattle.std.proofs.Common.{◌≡◌, ◌<◌, ℕ, None}
use Rattle.trace_check.specs.Fields.{call_in}
use Rattle.trace_check.proofs.cursor.Cursor.least.Given as goal

abbrev pub invariant-loop-thread : goal.invariant-loop-thread
invariant-loop-thread l = (i : ℕ) → i < l.thread → call_in l.self i ≡ None
