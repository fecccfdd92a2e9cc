use Rattle.std.proofs.Common.{◌≡◌, ◌≢◌, get_or, min, bit_and, ap, ◌∙◌, sym, arith}
use Rattle.lpi_config.specs.Bounds.{rank}
use Rattle.lpi_config.proofs.LeastIn.{least_nowhere, least_with, rank_on, rank_off}
use Rattle.lpi_config.proofs.least.least_rank.Goals.{then-byte-eq1, else-byte-eq1, then-rank-least, else-rank-least}
use Rattle.lpi_config.proofs.least.least_rank.Goals as goal

pub loop-byte-init : goal.loop-byte-init
loop-byte-init c = least_nowhere (λ k. rank (get_or c.args.bytes.now k 0)) 0

pub loop-byte-preserved : goal.loop-byte-preserved
loop-byte-preserved c =
    let here : c.if-byte-eq1.rank ≡ rank (get_or c.args.bytes.now c.loop-byte.byte-index 0) =
    elim c.if-byte-eq1.branch [
      | then-byte-eq1 w ↦
          let on : bit_and (get_or c.args.bytes.now c.loop-byte.byte-index 0) 1 ≡ 1 = omega (arith, w.if-byte-eq1.true) in
          w.rank-is ∙ sym (rank_on (get_or c.args.bytes.now c.loop-byte.byte-index 0) on)
      | else-byte-eq1 w ↦
          let off : bit_and (get_or c.args.bytes.now c.loop-byte.byte-index 0) 1 ≢ 1 = omega (arith, w.if-byte-eq1.false) in
          w.rank-is ∙ sym (rank_off (get_or c.args.bytes.now c.loop-byte.byte-index 0) off)
    ]
    in
    let next : c.if-rank-least.least ≡ min c.loop-byte.least c.if-byte-eq1.rank =
    elim c.if-rank-least.branch [
      | then-rank-least w ↦ omega (arith, w.least-is, w.if-rank-least.true)
      | else-rank-least w ↦ omega (arith, w.least-is, w.if-rank-least.false)
    ]
    in
    let next' : c.if-rank-least.least ≡ min c.loop-byte.least (rank (get_or c.args.bytes.now c.loop-byte.byte-index 0)) =
    next ∙ ap (min c.loop-byte.least) here in
    least_with (λ k. rank (get_or c.args.bytes.now k 0)) c.loop-byte.byte-index c.loop-byte.least c.if-rank-least.least c.loop-byte.invariant next'
