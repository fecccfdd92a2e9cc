use Rattle.its_types.specs.declared.machine.Part.TheVariants as part
use Rattle.its_turns.specs.Calls.{StillAsks, IsEither}
use Rattle.its_turns.specs.Machines.{view, IsOf}
use Rattle.redist_ack.proofs.asks.ask.Given as goal

abbrev pub invariant-loop : goal.invariant-loop
invariant-loop g l =
    (goal.iterator-loop g).can_next l.iterator' × (goal.iterator-loop g).is_finite l.iterator' × IsOf l.machine l.pass
    × StillAsks (IsEither (part.Conf l.vcpu) (part.Pend l.vcpu)) (view l.fn.pass) (view l.pass)
