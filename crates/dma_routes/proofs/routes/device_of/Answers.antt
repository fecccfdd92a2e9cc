use Rattle.std.proofs.Common.{sym, arith}
use Rattle.dma_routes.proofs.Doorbells.{found_fits}
use Rattle.dma_routes.proofs.routes.device_of.Goals as goal

pub overflow_sub-result : goal.overflow_sub-result
overflow_sub-result c = (found_fits c.args.req c.args.ranges.now c.in_ok-range.range c.requires (sym c.in_ok-range.ensures)).from

pub overflow_add-result : goal.overflow_add-result
overflow_add-result c =
    let fits = found_fits c.args.req c.args.ranges.now c.in_ok-range.range c.requires (sym c.in_ok-range.ensures) in
    omega (arith, fits.device)
