use Rattle.its_turns.proofs.Opening.{one_more_apart}
use Rattle.its_turns.proofs.make.spread.Goals as goal

pub loop-value-preserved : goal.loop-value-preserved
loop-value-preserved c = let l = c.loop-value in one_more_apart l.yielded c.in-Some.value l.slots.items c.push_apart.new.slots.items l.invariant
    c.in_ok-push_apart.ensures
