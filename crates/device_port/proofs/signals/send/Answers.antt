use Rattle.its_turns.specs.Machines.{view}
use Rattle.its_turns.proofs.Telling.{stays_first}
use Rattle.device_port.proofs.Asked.{asks_first, again_busy, again_raced, asked_spent, asked_done}
use Rattle.device_port.proofs.signals.send.Goals as goal

pub loop-init : goal.loop-init
loop-init g c =
    let v = view c.args.pass.now in
    (tt, tt, c.requires.of, stays_first v, asks_first c.args.call.now c.args.message v)

pub loop-preserved-in-Busy : goal.loop-preserved-in-Busy
loop-preserved-in-Busy g c =
    let e = c.in-Busy.ensures in
    let again = again_busy c.args.call.now c.args.message (view c.args.pass.now) (view c.loop.pass) c.loop.invariant.3 c.loop.invariant.4 c.in-Busy.field-0
    (view c.send_once.new.pass) e.answer in
    (tt, tt, e.of, again.0, again.1)

pub loop-preserved : goal.loop-preserved
loop-preserved g c =
    let e = c.in-Raced.ensures in
    let again = again_raced c.args.call.now c.args.message (view c.args.pass.now) (view c.loop.pass) c.loop.invariant.3 c.loop.invariant.4 c.in-Raced.field-0
    (view c.send_once.new.pass) e.answer in
    (tt, tt, e.of, again.0, again.1)

pub returns-in-Done-clause-answer : goal.returns-in-Done-clause-answer
returns-in-Done-clause-answer g c =
    asked_done c.args.call.now c.args.message (view c.args.pass.now) (view c.loop.pass) c.loop.invariant.3 c.loop.invariant.4 c.in-Done.placed
    (view c.send_once.new.pass) c.in-Done.ensures.answer

pub returns-in-Spent-clause-answer : goal.returns-in-Spent-clause-answer
returns-in-Spent-clause-answer g c =
    asked_spent c.args.call.now c.args.message (view c.args.pass.now) (view c.loop.pass) c.loop.invariant.3 c.loop.invariant.4 (view c.send_once.new.pass)
    c.in-Spent.ensures.answer
