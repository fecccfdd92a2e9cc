use Rattle.std.proofs.Common.{length, inl, inr, ap, arith}
use Rattle.std.proofs.lemmas.Bool.{cases_lt}
use Rattle.trace_check.specs.Cursors.{threads_of}
use Rattle.trace_check.proofs.Counting.{none_past}
use Rattle.trace_check.proofs.cursor.Cursor.least.Goals as goal

pub returns-clause-none : goal.returns-clause-none
returns-clause-none c = λ i.
    elim (cases_lt i c.loop-thread.thread) [
      | inl lt ↦ c.loop-thread.invariant i lt
      | inr le ↦ none_past (threads_of c.args.self.now.phases.now) c.args.self.now.answered.items i
          (omega (arith, le, c.loop-thread-test.false, ap length c.threads-thread-end.ensures))
    ]
