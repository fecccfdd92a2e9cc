use Rattle.std.proofs.Common.{ℕ, refl, []}
use Rattle.std.specs.Option.{option_map}
use Rattle.dirty_log.specs.Copies.{caught_up}
use Rattle.its_types.specs.declared.machine.Part.TheVariants as part
use Rattle.its_plain.specs.declared.call.Call.TheVariants as call
use Rattle.its_plain.specs.declared.call.Reply.TheVariants as reply
use Rattle.its_plain.specs.Answer.{copy_count}
use Rattle.its_steps.specs.declared.change.ShardChange.TheVariants.{Keep}
use Rattle.its_steps.specs.Contents.{Mem}
use Rattle.its_turns.specs.Machines.{setup, view}
use Rattle.its_turns.proofs.Telling.{may_here, owes_here, one_held, one_lost}
use Rattle.guest_port.proofs.Alone.{one, copies_now, same_windows}
use Rattle.guest_port.proofs.tries.try_copy.Goals as goal

pub try_commit-requires-clause-may : goal.try_commit-requires-clause-may
try_commit-requires-clause-may g c =
    let m = c.args.machine.now in let v = view c.args.pass.now in let x = view c.try_take_memory.new.pass in let ws = c.in-Ok.memory.value.memory in
    let track = c.in-Ok.memory.value.track in
    rw (c.count-pages.ensures, c.deref.ensures) (may_here (setup m) call.Copy (reply.Copied (copy_count track)) Keep (one ws track)
    (λ _. one ws (option_map (caught_up ws) track)) (copies_now (setup m) ws track m.laid.1) x
    (one_held v part.Mem (Mem ws track) x c.in-Ok.ensures.result.0.view c.requires.free))

pub catch_up-requires : goal.catch_up-requires
catch_up-requires g c = let m = c.args.machine.now in rw (c.deref_mut.ensures.value) (same_windows (setup m) c.in-Ok.memory.value.memory
    c.in-Ok.memory.value.track (rw (c.requires.of.1) at c.in-Ok.ensures.result.0.stood))

pub put-requires-clause-owed : goal.put-requires-clause-owed
put-requires-clause-owed g c =
    let m = c.args.machine.now in let v = view c.args.pass.now in let x = view c.try_take_memory.new.pass in let ws = c.in-Ok.memory.value.memory in
    let track = c.in-Ok.memory.value.track in
    record {
      content = Mem ws (option_map (caught_up ws) track);
      content_is = rw (c.catch_up.ensures.memory, c.catch_up.ensures.track, c.deref_mut.ensures.value) refl;
      before = [];
      last = owes_here (setup m) call.Copy (reply.Copied (copy_count track)) Keep (one ws track) (λ _. one ws (option_map (caught_up ws) track))
          (copies_now (setup m) ws track m.laid.1) x
          (one_held v part.Mem (Mem ws track) x c.in-Ok.ensures.result.0.view c.requires.free) c.try_take_memory.ensures.of.1 c.in-Ok-try_commit.word
          (view c.try_commit.new.pass)
          (rw (c.count-pages.ensures, c.deref.ensures) at c.in-Ok-try_commit.ensures.result);
    }

pub returns-in-Err-try_commit-clause-answer : goal.returns-in-Err-try_commit-clause-answer
returns-in-Err-try_commit-clause-answer g c = let v = view c.args.pass.now in let x = view c.try_take_memory.new.pass in let ws = c.in-Ok.memory.value.memory in
    let track = c.in-Ok.memory.value.track in
    rw (c.attempt.ensures) (one_lost v part.Mem (Mem ws track) x c.in-Ok.ensures.result.0.view call.Copy (λ (n : ℕ). reply.Copied n)
    c.in-Err-try_commit.lost (view c.try_commit.new.pass) (view c.put-in-Err-try_commit.new.pass)
    c.in-Err-try_commit.ensures.result c.put-in-Err-try_commit.ensures.view)
