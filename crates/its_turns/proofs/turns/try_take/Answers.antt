use Rattle.std.proofs.Common.{refl}
use Rattle.its_turns.specs.Machines.{view}
use Rattle.its_turns.proofs.Ordering.{in_order_free}
use Rattle.its_turns.proofs.turns.try_take.Goals as goal

pub returns-then-found-ne0-clause-result : goal.returns-then-found-ne0-clause-result
returns-then-found-ne0-clause-result c =
    let missed = c.try_turn-found.ensures.tries.1 c.if-found-ne0.true in
    let another = missed.another (in_order_free c.args.part (view c.args.pass.now).held c.requires.order) in
    record { part = refl; view = missed.view; another = another.0; out = another.1 }
