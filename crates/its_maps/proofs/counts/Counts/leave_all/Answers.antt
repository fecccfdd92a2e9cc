use Rattle.std.proofs.Common.{arith}
use Rattle.its_maps.specs.Counting.{one}
use Rattle.its_maps.specs.Walks.{events_left}
use Rattle.its_maps.proofs.Tallied.{first_event}
use Rattle.its_maps.proofs.counts.Counts.leave_all.Goals as goal

pub overflow_sub-self : goal.overflow_sub-self
overflow_sub-self c =
    let steps = first_event one (events_left c.loop-event.event-iterator) (events_left c.next.new.self) (c.in-Some.field-0-0.0, c.in-Some.event)
    c.in-Some.ensures.steps in
    omega (arith, steps, c.loop-event.invariant.events, c.requires.some)
