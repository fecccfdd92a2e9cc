use Rattle.std.proofs.Common.{◌≡◌, refl, ap, ◌∙◌, []}
use Rattle.guest_windows.specs.Windows.{write_at}
use Rattle.its_types.specs.declared.machine.Part.TheVariants as part
use Rattle.its_plain.specs.declared.call.Reply.{Reply}
use Rattle.its_plain.specs.Answer.{poke_reply}
use Rattle.its_steps.specs.Calls.{poked_content}
use Rattle.its_steps.specs.declared.change.ShardChange.TheVariants.{Keep}
use Rattle.its_steps.specs.Contents.{Mem}
use Rattle.its_turns.specs.Machines.{setup, view}
use Rattle.its_turns.specs.declared.value.GuestMemory.{GuestMemory}
use Rattle.its_turns.proofs.Telling.{may_here, owes_here, one_held, one_lost}
use Rattle.guest_port.proofs.Alone.{one, one_written, writes_now}
use Rattle.guest_port.specs.Pokes.{write_of}
use Rattle.guest_port.proofs.tries.try_write_within.Goals as goal

pub try_commit-requires-clause-may : goal.try_commit-requires-clause-may
try_commit-requires-clause-may g c =
    let m = c.args.machine.now in let v = view c.args.pass.now in let x = view c.try_take_memory.new.pass in let ws = c.in-Ok.memory.value.memory in
    let track = c.in-Ok.memory.value.track in let addr = c.args.addr in let bytes = c.args.bytes.now in let a = poke_reply (write_at ws addr.0 bytes) in
    let same : c.hold.new.guest.memory ≡ ws = c.hold.ensures.memory ∙ ap (λ (k : GuestMemory). k.memory) c.deref_mut.ensures.value in
    rw (c.call-call.ensures, c.poke_answer-reply.ensures.answer, c.deref.ensures, same) (may_here (setup m) (write_of c.args.writer addr bytes) a Keep
    (one ws track)
    (λ _. one_written ws track addr.0 bytes) (writes_now (setup m) ws track m.laid.1 c.args.writer addr bytes) x
    (one_held v part.Mem (Mem ws track) x c.in-Ok.ensures.result.0.view c.requires.free))

pub put-requires-in-Ok-try_commit-clause-owed : goal.put-requires-in-Ok-try_commit-clause-owed
put-requires-in-Ok-try_commit-clause-owed g c =
    let m = c.args.machine.now in let v = view c.args.pass.now in let x = view c.try_take_memory.new.pass in let ws = c.in-Ok.memory.value.memory in
    let track = c.in-Ok.memory.value.track in let addr = c.args.addr in let bytes = c.args.bytes.now in let a = poke_reply (write_at ws addr.0 bytes) in
    let same : c.hold.new.guest.memory ≡ ws = c.hold.ensures.memory ∙ ap (λ (k : GuestMemory). k.memory) c.deref_mut.ensures.value in
    let still : c.hold.new.guest.track ≡ track = c.hold.ensures.track ∙ ap (λ (k : GuestMemory). k.track) c.deref_mut.ensures.value in
    record {
      content = poked_content ws track addr.0 bytes (write_at ws addr.0 bytes);
      content_is = rw (c.write_bytes.ensures.written, c.deref_mut-in-Ok-try_commit.ensures.value, same, still) refl;
      before = [];
      last = owes_here (setup m) (write_of c.args.writer addr bytes) a Keep (one ws track) (λ _. one_written ws track addr.0 bytes)
          (writes_now (setup m) ws track m.laid.1 c.args.writer addr bytes) x
          (one_held v part.Mem (Mem ws track) x c.in-Ok.ensures.result.0.view c.requires.free) c.try_take_memory.ensures.of.1 c.in-Ok-try_commit.word
          (view c.try_commit.new.pass)
          (rw (c.call-call.ensures, c.poke_answer-reply.ensures.answer, c.deref.ensures, same) at c.in-Ok-try_commit.ensures.result);
    }

pub returns-in-Err-try_commit-clause-answer : goal.returns-in-Err-try_commit-clause-answer
returns-in-Err-try_commit-clause-answer g c = let v = view c.args.pass.now in let x = view c.try_take_memory.new.pass in let ws = c.in-Ok.memory.value.memory in
    let track = c.in-Ok.memory.value.track in
    rw (c.attempt.ensures) (one_lost v part.Mem (Mem ws track) x c.in-Ok.ensures.result.0.view (write_of c.args.writer c.args.addr c.args.bytes.now)
    (λ (k : Reply). k) c.in-Err-try_commit.lost (view c.try_commit.new.pass) (view c.put-in-Err-try_commit.new.pass)
    c.in-Err-try_commit.ensures.result c.put-in-Err-try_commit.ensures.view)
