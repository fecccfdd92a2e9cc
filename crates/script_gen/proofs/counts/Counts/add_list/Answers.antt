-- The list ends where its calls or its replies end.
use Rattle.std.proofs.Common.{length, inl, inr, sym, ap, ◌∙◌}
use Rattle.script_gen.proofs.Counted.{no_calls_left, no_replies_left}
use Rattle.script_gen.proofs.counts.Counts.add_list.Goals as goal

pub returns : goal.returns
returns c =
    let calls = c.loop-call.call-iterator.a in
    let replies = c.loop-call.call-iterator.b.rest.now in
    elim c.in-None.ensures.steps [
      | inl done ↦ sym (no_calls_left calls replies c.loop-call.self (ap length done.1.0)) ∙ c.loop-call.invariant.counts
      | inr done ↦ sym (no_replies_left calls replies c.loop-call.self done.1.0) ∙ c.loop-call.invariant.counts
    ]
