use Rattle.lpi_pending.proofs.Moves.{lpis_rise, lpis_in_range}
use Rattle.lpi_pending.proofs.pending.Pending.lpi_bits.Goals as goal

pub returns-clause-rising : goal.returns-clause-rising
returns-clause-rising c = rw (← c.self.view_is) (lpis_rise c.self.inside.bitmap)

pub returns-clause-in_range : goal.returns-clause-in_range
returns-clause-in_range c = rw (← c.self.view_is) (lpis_in_range c.self.inside.lpi_bits c.self.inside.bitmap c.self.invariant.size)
