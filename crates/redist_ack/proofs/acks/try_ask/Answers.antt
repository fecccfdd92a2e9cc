use Rattle.std.proofs.Common.{[]}
use Rattle.its_types.specs.declared.machine.Part.TheVariants as part
use Rattle.its_plain.specs.Answer.{ack_of}
use Rattle.its_plain.specs.Plain.{joined, pend_of}
use Rattle.its_plain.specs.declared.call.Reply.TheVariants as reply
use Rattle.lpi_config.specs.Conf.{conf_state}
use Rattle.lpi_pending.specs.InHand.{pend_state}
use Rattle.its_steps.specs.Calls.{redistributor_held}
use Rattle.its_steps.specs.Contents.{Conf, Pend}
use Rattle.its_steps.specs.declared.change.ShardChange.TheVariants.{Keep}
use Rattle.its_turns.specs.Machines.{setup, view}
use Rattle.its_turns.proofs.Telling.{may_here, owes_here}
use Rattle.redist_ack.specs.Offers.{call_of, chosen, left_by}
use Rattle.redist_ack.proofs.Alone.{asks_now}
use Rattle.redist_ack.proofs.TwoParts.{both_held, both_lost}
use Rattle.redist_ack.proofs.acks.try_ask.Goals as goal

pub try_commit-requires-clause-may : goal.try_commit-requires-clause-may
try_commit-requires-clause-may g c =
    let m = c.args.machine.now in let v = view c.args.pass.now in let x = view c.try_take_both.new.pass in let vcpu = c.args.vcpu in let s =
    conf_state c.in-Ok.both.0.value in let p = pend_state c.in-Ok.both.1.value in let a = reply.Ack (ack_of (joined s p) (chosen (joined s p) c.args.asked)) in
    rw (c.answer-ack.ensures.answer, c.deref.ensures, c.deref-2.ensures, c.call-call.ensures) (may_here (setup m) (call_of vcpu c.args.asked) a Keep
    (redistributor_held vcpu s p []) (λ _. redistributor_held vcpu s (pend_of (left_by (joined s p) c.args.asked)) [])
    (asks_now (setup m) vcpu s p m.laid.1 c.requires.vcpu c.args.asked) x
    (both_held v (part.Conf vcpu) (part.Pend vcpu) (Conf s) (Pend p) x c.in-Ok.ensures.result.0 c.requires.free))

pub put_both-requires-clause-owed : goal.put_both-requires-clause-owed
put_both-requires-clause-owed g c =
    let m = c.args.machine.now in let v = view c.args.pass.now in let x = view c.try_take_both.new.pass in let vcpu = c.args.vcpu in let s =
    conf_state c.in-Ok.both.0.value in let p = pend_state c.in-Ok.both.1.value in let a = reply.Ack (ack_of (joined s p) (chosen (joined s p) c.args.asked)) in (
      [],
      rw (rw (c.answer-ack.ensures.answer, c.deref.ensures, c.deref-2.ensures, c.deref_mut.ensures.value) at c.apply.ensures.left s)
          (owes_here (setup m) (call_of vcpu c.args.asked) a Keep (redistributor_held vcpu s p [])
          (λ _. redistributor_held vcpu s (pend_of (left_by (joined s p) c.args.asked)) [])
          (asks_now (setup m) vcpu s p m.laid.1 c.requires.vcpu c.args.asked) x
          (both_held v (part.Conf vcpu) (part.Pend vcpu) (Conf s) (Pend p) x c.in-Ok.ensures.result.0 c.requires.free) c.try_take_both.ensures.of.1
          c.in-Ok-try_commit.word (view c.try_commit.new.pass)
          (rw (c.answer-ack.ensures.answer, c.deref.ensures, c.deref-2.ensures, c.call-call.ensures) at c.in-Ok-try_commit.ensures.result)),
    )

pub returns-in-Err-try_commit-clause-answer : goal.returns-in-Err-try_commit-clause-answer
returns-in-Err-try_commit-clause-answer g c =
    let v = view c.args.pass.now in let vcpu = c.args.vcpu in
    rw (c.attempt.ensures) (both_lost v (part.Conf vcpu) (part.Pend vcpu) (Conf (conf_state c.in-Ok.both.0.value)) (Pend (pend_state c.in-Ok.both.1.value))
    (view c.try_take_both.new.pass) c.in-Ok.ensures.result.0 (call_of vcpu c.args.asked) (λ k. reply.Ack k) c.in-Err-try_commit.lost
    (view c.try_commit.new.pass) (view c.put_both-in-Err-try_commit.new.pass) c.in-Err-try_commit.ensures.result c.put_both-in-Err-try_commit.ensures.view)
