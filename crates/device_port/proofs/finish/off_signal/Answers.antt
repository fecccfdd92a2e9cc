use Rattle.its_plain.specs.declared.call.Cause.TheVariants.{LpisOff}
use Rattle.its_plain.specs.declared.call.Reply.TheVariants as reply
use Rattle.its_plain.specs.declared.call.Signal.TheVariants.{Dropped}
use Rattle.xlate_cache.specs.Pairs.{shard_number}
use Rattle.device_port.proofs.Handed.{three_by_number, number_inside}
use Rattle.its_steps.proofs.Signals.{offs}
use Rattle.its_steps.specs.declared.change.ShardChange.TheVariants.{Keep}
use Rattle.its_turns.proofs.Telling.{may_here, owes_here}
use Rattle.owned_parts.specs.Owned.{pend_state, translator_of}
use Rattle.its_turns.specs.Machines.{setup, view}
use Rattle.device_port.specs.Hands.{three_held}
use Rattle.device_port.proofs.finish.off_signal.Goals as goal

pub try_commit-requires-clause-may : goal.try_commit-requires-clause-may
try_commit-requires-clause-may g c = let m = c.args.machine.now in let s = setup m in let t = c.args.maps.value in let h = c.args.hand in let r =
    pend_state h.pend.value in let call = c.args.call.now in let message = c.args.message in let its = message.its in let dev = message.dev in
    let ev = message.ev in let y = view c.args.pass.now in
    let held = three_held its (shard_number dev.0 ev.0 s.shards) h.target.vcpu t h.shard r in
    may_here s call (reply.Signal (Dropped LpisOff)) Keep held (λ _. held)
    (λ w room. offs s w call its dev ev h.target
    (translator_of t) h.shard r c.requires.sends.message_is m.laid.1 c.requires.sends.stands c.requires.hand.hand.vcpu
    (number_inside s message h c.requires.hand) room c.requires.goes c.requires.off) y
    (three_by_number s message h t y.held c.requires.hand c.requires.held)

pub put_three-requires-clause-held : goal.put_three-requires-clause-held
put_three-requires-clause-held g c = let m = c.args.machine.now in let s = setup m in let t = c.args.maps.value in let h = c.args.hand in let r =
    pend_state h.pend.value in let call = c.args.call.now in let message = c.args.message in let its = message.its in let dev = message.dev in
    let ev = message.ev in let y = view c.args.pass.now in
    let held = three_held its (shard_number dev.0 ev.0 s.shards) h.target.vcpu t h.shard r in
    rw (c.requires.hand.number_is) (owes_here s call (reply.Signal (Dropped LpisOff)) Keep held (λ _. held)
    (λ w room. offs s w call its dev ev h.target
    (translator_of t) h.shard r c.requires.sends.message_is m.laid.1 c.requires.sends.stands c.requires.hand.hand.vcpu
    (number_inside s message h c.requires.hand) room c.requires.goes c.requires.off) y
    (three_by_number s message h t y.held c.requires.hand c.requires.held) c.requires.of.1 c.in-Ok.word
    (view c.try_commit.new.pass) c.in-Ok.ensures.result)
