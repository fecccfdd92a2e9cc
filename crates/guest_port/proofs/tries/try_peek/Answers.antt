use Rattle.std.proofs.Common.{refl, []}
use Rattle.its_types.specs.declared.machine.Part.TheVariants as part
use Rattle.its_plain.specs.declared.call.Call.TheVariants as call
use Rattle.its_plain.specs.declared.call.Reply.{Reply}
use Rattle.its_plain.specs.Answer.{peek_reply}
use Rattle.its_steps.specs.Calls.{peeked_in}
use Rattle.its_steps.specs.declared.change.ShardChange.TheVariants.{Keep}
use Rattle.its_steps.specs.Contents.{Mem}
use Rattle.its_turns.specs.Machines.{setup, view}
use Rattle.its_turns.proofs.Telling.{may_here, owes_here, one_held, one_lost}
use Rattle.guest_port.proofs.Alone.{one, peeks_now}
use Rattle.guest_port.proofs.tries.try_peek.Goals as goal

pub try_commit-requires-clause-may : goal.try_commit-requires-clause-may
try_commit-requires-clause-may g c =
    let m = c.args.machine.now in let v = view c.args.pass.now in let x = view c.try_take_memory.new.pass in let ws = c.in-Ok.memory.value.memory in
    let track = c.in-Ok.memory.value.track in let a =
    peek_reply (peeked_in ws c.args.addr.0 c.args.count) in
    rw (c.peek_answer-reply.ensures, c.deref.ensures) (may_here (setup m) (call.Peek c.args.addr c.args.count) a Keep (one ws track) (λ _. one ws track)
    (peeks_now (setup m) ws track m.laid.1 c.args.addr c.args.count) x
    (one_held v part.Mem (Mem ws track) x c.in-Ok.ensures.result.0.view c.requires.free))

pub put-requires-clause-owed : goal.put-requires-clause-owed
put-requires-clause-owed g c =
    let m = c.args.machine.now in let v = view c.args.pass.now in let x = view c.try_take_memory.new.pass in let ws = c.in-Ok.memory.value.memory in
    let track = c.in-Ok.memory.value.track in let a =
    peek_reply (peeked_in ws c.args.addr.0 c.args.count) in
    record {
      content = Mem ws track;
      content_is = refl;
      before = [];
      last = owes_here (setup m) (call.Peek c.args.addr c.args.count) a Keep (one ws track) (λ _. one ws track)
          (peeks_now (setup m) ws track m.laid.1 c.args.addr c.args.count) x
          (one_held v part.Mem (Mem ws track) x c.in-Ok.ensures.result.0.view c.requires.free) c.try_take_memory.ensures.of.1 c.in-Ok-try_commit.word
          (view c.try_commit.new.pass)
          (rw (c.peek_answer-reply.ensures, c.deref.ensures) at c.in-Ok-try_commit.ensures.result);
    }

pub returns-in-Err-try_commit-clause-answer : goal.returns-in-Err-try_commit-clause-answer
returns-in-Err-try_commit-clause-answer g c = let v = view c.args.pass.now in let x = view c.try_take_memory.new.pass in let ws = c.in-Ok.memory.value.memory in
    let track = c.in-Ok.memory.value.track in
    rw (c.attempt.ensures) (one_lost v part.Mem (Mem ws track) x c.in-Ok.ensures.result.0.view (call.Peek c.args.addr c.args.count)
    (λ (k : Reply). k) c.in-Err-try_commit.lost (view c.try_commit.new.pass) (view c.put-in-Err-try_commit.new.pass)
    c.in-Err-try_commit.ensures.result c.put-in-Err-try_commit.ensures.view)
