use Rattle.std.proofs.Common.{◌≡◌, ℕ, List, length, ap, ◌∙◌, arith}
use Rattle.its_types.specs.Ranges.{lpi_count}
use Rattle.lpi_pending.specs.PendingSets.{PendingSet, lpis_of}
use Rattle.lpi_pending.proofs.Bitmaps.{lpis_of-zeros}
use Rattle.lpi_pending.proofs.Moves.{moved_lpis}
use Rattle.lpi_pending.proofs.pending.Pending.move_all.Goals as goal

pub returns-clause-left : goal.returns-clause-left
returns-clause-left c =
    let rebuilt : List ℕ → PendingSet = λ lpis. record { lpi_bits = c.self.inside.lpi_bits; lpis = lpis } in
    rw (← c.self.view_is) (ap rebuilt (ap lpis_of c.move_to.ensures.left ∙ lpis_of-zeros (length c.self.inside.bitmap)))

pub returns-clause-moved : goal.returns-clause-moved
returns-clause-moved c =
    let rebuilt : List ℕ → PendingSet = λ lpis. record { lpi_bits = c.to.inside.lpi_bits; lpis = lpis } in
    let same : c.self.inside.lpi_bits ≡ c.to.inside.lpi_bits = rw (← c.self.view_is, ← c.to.view_is) at c.requires in
    let size : length c.self.inside.bitmap ≡ length c.to.inside.bitmap = let counts : lpi_count c.self.inside.lpi_bits ≡ lpi_count c.to.inside.lpi_bits =
    ap lpi_count same in omega (arith, c.self.invariant.size, c.to.invariant.size, counts) in
    rw (← c.self.view_is, ← c.to.view_is)
    (ap rebuilt (moved_lpis c.to.inside.bitmap c.self.inside.bitmap c.move_to.new.to c.move_to.ensures.size size c.move_to.ensures.bits))
