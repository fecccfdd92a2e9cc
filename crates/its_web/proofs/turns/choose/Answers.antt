use Rattle.std.proofs.Common.{length, inl, inr, arith}
use Rattle.std.proofs.lemmas.Bool.{cases_lt}
use Rattle.trace_check.proofs.Counting.{none_past}
use Rattle.its_web.proofs.turns.choose.Goals as goal

pub returns-clause-none : goal.returns-clause-none
returns-clause-none c = λ i.
    elim (cases_lt i c.loop-thread-2.thread) [
      | inl lt ↦ c.loop-thread-2.invariant i lt
      | inr le ↦ none_past c.args.threads.now c.args.made.now i (omega (arith, le, c.loop-thread-2-test.false))
    ]
