use Rattle.its_turns.specs.Machines.{view}
use Rattle.device_port.proofs.Asked.{by_maps_then, done_then, busy_then, raced_then, spent_then}
use Rattle.device_port.proofs.signals.send_once.Goals as goal

pub returns-in-Done-clause-answer : goal.returns-in-Done-clause-answer
returns-in-Done-clause-answer g c = done_then c.args.call.now c.args.message (view c.args.pass.now) (view c.try_send.new.pass) c.try_send.ensures.early
    c.in-Done.placed c.in-Done.ensures.answer

pub returns-in-Busy-clause-answer : goal.returns-in-Busy-clause-answer
returns-in-Busy-clause-answer g c = busy_then c.args.call.now c.args.message (view c.args.pass.now)
    (view c.try_send.new.pass) c.try_send.ensures.early c.in-Busy.busy
    c.in-Busy.ensures.answer

pub returns-in-Raced-clause-answer : goal.returns-in-Raced-clause-answer
returns-in-Raced-clause-answer g c = raced_then c.args.call.now c.args.message (view c.args.pass.now) (view c.try_send.new.pass) c.try_send.ensures.early
    c.in-Raced.raced c.in-Raced.ensures.answer

pub returns-in-Spent-clause-answer : goal.returns-in-Spent-clause-answer
returns-in-Spent-clause-answer g c = spent_then c.args.call.now c.args.message (view c.args.pass.now) (view c.try_send.new.pass) c.try_send.ensures.early
    c.in-Spent.ensures.answer

pub returns-in-Miss-clause-answer : goal.returns-in-Miss-clause-answer
returns-in-Miss-clause-answer g c = let a = c.in-Miss.ensures.answer in
    by_maps_then c.args.call.now c.args.message (view c.args.pass.now) (view c.try_send.new.pass) (view c.send_by_maps.new.pass) a.0 a.1 a.2 a.3
    c.try_send.ensures.early c.send_by_maps.result c.send_by_maps.ensures.answer
