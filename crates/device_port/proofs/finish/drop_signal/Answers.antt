use Rattle.std.proofs.Common.{refl, []}
use Rattle.its_plain.specs.declared.call.Reply.TheVariants as reply
use Rattle.its_plain.specs.declared.call.Signal.TheVariants.{Dropped}
use Rattle.its_steps.proofs.Signals.{drops}
use Rattle.its_steps.specs.Contents.{Maps}
use Rattle.its_steps.specs.declared.change.ShardChange.TheVariants.{Keep}
use Rattle.its_turns.proofs.Telling.{may_here, owes_here}
use Rattle.owned_parts.specs.Owned.{translator_of}
use Rattle.its_turns.specs.Machines.{setup, view}
use Rattle.device_port.specs.Hands.{one_held}
use Rattle.device_port.proofs.finish.drop_signal.Goals as goal

pub try_commit-requires-clause-may : goal.try_commit-requires-clause-may
try_commit-requires-clause-may g c = let m = c.args.machine.now in let t = c.args.maps.value in let call = c.args.call.now in let message = c.args.message in
    let its = message.its in
    may_here (setup m) call (reply.Signal (Dropped c.args.cause)) Keep (one_held its t) (λ _. one_held its t)
    (λ w room. drops (setup m) w call its message.dev message.ev c.args.cause (translator_of t) c.requires.sends.message_is m.laid.1
    c.requires.sends.stands room c.requires.lost)
    (view c.args.pass.now) c.requires.held

pub put-requires-clause-owed : goal.put-requires-clause-owed
put-requires-clause-owed g c = let m = c.args.machine.now in let t = c.args.maps.value in let call = c.args.call.now in let message = c.args.message in
    let its = message.its in
    record {
      content = Maps (translator_of t);
      content_is = refl;
      before = [];
      last = owes_here (setup m) call (reply.Signal (Dropped c.args.cause)) Keep (one_held its t) (λ _. one_held its t)
          (λ w room. drops (setup m) w call its message.dev message.ev c.args.cause (translator_of t) c.requires.sends.message_is m.laid.1
          c.requires.sends.stands room c.requires.lost)
          (view c.args.pass.now) c.requires.held c.requires.of.1 c.in-Ok.word (view c.try_commit.new.pass) c.in-Ok.ensures.result;
    }
