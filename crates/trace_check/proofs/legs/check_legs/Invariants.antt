use Rattle.trace_check.specs.Verdicts.{copies_of}
use Rattle.trace_check.proofs.Checked.{Checking}
use Rattle.trace_check.proofs.legs.check_legs.Given as goal

abbrev pub invariant-loop-index : goal.invariant-loop-index
invariant-loop-index l = Checking l.fn.machine l.legs (copies_of l.moves) l.trace.legs l.index l.machine
