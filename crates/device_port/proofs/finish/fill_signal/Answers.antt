use Rattle.owned_parts.specs.Owned.{pend_state}
use Rattle.its_turns.specs.Machines.{setup, view}
use Rattle.device_port.proofs.Handed.{three_by_number, number_inside}
use Rattle.device_port.proofs.Mapped.{fill_may, fill_owes, fill_finds}
use Rattle.device_port.proofs.finish.fill_signal.Goals as goal

pub try_commit-requires-clause-may : goal.try_commit-requires-clause-may
try_commit-requires-clause-may g c = let m = c.args.machine.now in let s = setup m in let t = c.args.maps.value in let h = c.args.hand in let r =
    pend_state h.pend.value in let y = view c.args.pass.now in
    fill_may s m.laid.1 c.args.call.now c.args.message c.requires.sends h.target t h.shard r c.requires.hand.hand.vcpu
    (number_inside s c.args.message h c.requires.hand)
    c.requires.goes c.requires.on y (three_by_number s c.args.message h t y.held c.requires.hand c.requires.held)

pub put_three-requires-clause-held : goal.put_three-requires-clause-held
put_three-requires-clause-held g c = let m = c.args.machine.now in let s = setup m in let t = c.args.maps.value in let h = c.args.hand in let r =
    pend_state h.pend.value in let y = view c.args.pass.now in
    rw (c.requires.hand.number_is, c.fill.ensures.ways, c.stamp_of-stamp.ensures, c.set.ensures, c.deref_mut.ensures.value)
    (fill_owes s m.laid.1 c.args.call.now c.args.message c.requires.sends h.target t h.shard r c.requires.hand.hand.vcpu
    (number_inside s c.args.message h c.requires.hand) c.requires.goes c.requires.on y
    (three_by_number s c.args.message h t y.held c.requires.hand c.requires.held)
    c.requires.of.1 c.in-Ok.word (view c.try_commit.new.pass) c.in-Ok.ensures.result)

pub returns-in-Ok-clause-finds : goal.returns-in-Ok-clause-finds
returns-in-Ok-clause-finds g c = let m = c.args.machine.now in let s = setup m in let t = c.args.maps.value in let h = c.args.hand in let r =
    pend_state h.pend.value in let y = view c.args.pass.now in
    fill_finds s m.laid.1 c.args.call.now c.args.message c.requires.sends h.target t h.shard r c.requires.hand.hand.vcpu
    (number_inside s c.args.message h c.requires.hand) c.requires.goes c.requires.on y
    (three_by_number s c.args.message h t y.held c.requires.hand c.requires.held) c.requires.of.1 c.in-Ok.word (view c.try_commit.new.pass)
    c.in-Ok.ensures.result (view c.put_three.new.pass) c.requires.looked (rw (c.stamp_of-stamp.ensures) at c.fill.ensures.found) c.put_three.ensures.home
