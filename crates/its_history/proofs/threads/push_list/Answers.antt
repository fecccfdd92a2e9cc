use Rattle.std.proofs.Common.{length, inl, inr, ap}
use Rattle.its_history.proofs.ThreadLines.{at_end_of_calls, at_end_of_replies, nothing_more}
use Rattle.its_history.proofs.threads.push_list.Goals as goal

pub returns : goal.returns
returns c =
    let list = c.args.list.now in
    let calls = c.loop-call.call-iterator.a in
    let replies = c.loop-call.call-iterator.b.rest.now in
    elim c.in-None.ensures.steps [
      | inl done ↦ nothing_more _ _ _ (at_end_of_calls list.phase list.thread calls replies (ap length done.1.0)) c.loop-call.invariant
      | inr done ↦ nothing_more _ _ _ (at_end_of_replies list.phase list.thread calls replies done.1.0) c.loop-call.invariant
    ]
