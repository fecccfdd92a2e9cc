use Rattle.trace_check.proofs.Entries.{Went}
use Rattle.trace_check.proofs.leg.check_entries.Given as goal

abbrev pub invariant-loop-place : goal.invariant-loop-place
invariant-loop-place l = Went l.fn.machine l.leg l.entries l.place l.machine l.cursor
