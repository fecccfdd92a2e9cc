use Rattle.std.proofs.Common.{◌≡◌}
use Rattle.its_types.specs.declared.machine.Part.TheVariants as part
use Rattle.its_turns.specs.Calls.{StillAsks}
use Rattle.its_turns.specs.Machines.{view, IsOf}
use Rattle.gicr_lpi.proofs.reads.read_gicr.Given as goal

abbrev pub invariant-loop : goal.invariant-loop
invariant-loop g l =
    (goal.iterator-loop g).can_next l.iterator' × (goal.iterator-loop g).is_finite l.iterator' × IsOf l.machine l.pass × StillAsks (λ p. p ≡ part.Conf l.vcpu)
    (view l.fn.pass) (view l.pass)
