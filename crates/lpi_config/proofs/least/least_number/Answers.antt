use Rattle.std.proofs.Common.{◌≡◌, get_or, min, arith}
use Rattle.lpi_config.proofs.LeastIn.{least_nowhere, least_with}
use Rattle.lpi_config.proofs.least.least_number.Goals.{then-number-least, else-number-least}
use Rattle.lpi_config.proofs.least.least_number.Goals as goal

pub loop-number-init : goal.loop-number-init
loop-number-init c = least_nowhere (λ k. get_or c.args.numbers.now k 0) 0

pub loop-number-preserved : goal.loop-number-preserved
loop-number-preserved c =
    let next : c.if-number-least.least ≡ min c.loop-number.least (get_or c.args.numbers.now c.loop-number.number-index 0) =
    elim c.if-number-least.branch [
      | then-number-least w ↦ omega (arith, w.least-is, w.if-number-least.true)
      | else-number-least w ↦ omega (arith, w.least-is, w.if-number-least.false)
    ]
    in
    least_with (λ k. get_or c.args.numbers.now k 0) c.loop-number.number-index c.loop-number.least c.if-number-least.least c.loop-number.invariant next
