use Rattle.std.proofs.Common.{arith}
use Rattle.dirty_log.proofs.stretch.mark_stretch.Goals as goal

pub overflow_add-from : goal.overflow_add-from
overflow_add-from c = omega (arith, c.requires.few, c.requires.fits, c.max-low.ensures, c.min-high.ensures, c.if-low-high.true)

pub overflow_add-to : goal.overflow_add-to
overflow_add-to c = omega (arith, c.requires.few, c.requires.fits, c.min-high.ensures)
