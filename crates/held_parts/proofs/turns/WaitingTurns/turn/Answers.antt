use Rattle.its_turns.specs.Machines.{view}
use Rattle.held_parts.proofs.Going.{waits_first, waits_more, waits_in_order, takes_value, takes_after}
use Rattle.held_parts.proofs.turns.WaitingTurns.turn.Goals as goal

pub wait_for-requires-clause-order : goal.wait_for-requires-clause-order
wait_for-requires-clause-order g c = let v = view c.args.pass.now in let x = view c.try_take.new.pass in
    waits_in_order v x c.args.part (waits_more v v x c.args.part c.in-Err.field-0 (waits_first v) c.in-Err.ensures.result) c.requires.order

pub returns-in-Ok-clause-takes : goal.returns-in-Ok-clause-takes
returns-in-Ok-clause-takes g c = let v = view c.args.pass.now in
    takes_value v v (view c.try_take.new.pass) c.args.part c.in-Ok.value (waits_first v) c.in-Ok.ensures.result

pub returns-in-Err-clause-takes : goal.returns-in-Err-clause-takes
returns-in-Err-clause-takes g c = let v = view c.args.pass.now in let x = view c.try_take.new.pass in
    takes_after v x (view c.wait_for.new.pass) c.args.part c.wait_for.result
    (waits_more v v x c.args.part c.in-Err.field-0 (waits_first v) c.in-Err.ensures.result) c.wait_for.ensures.takes
