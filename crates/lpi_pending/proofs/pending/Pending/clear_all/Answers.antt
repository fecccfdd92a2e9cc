use Rattle.std.proofs.Common.{ℕ, List, length, ap, ◌∙◌}
use Rattle.lpi_pending.specs.PendingSets.{PendingSet, lpis_of}
use Rattle.lpi_pending.proofs.Bitmaps.{lpis_of-zeros}
use Rattle.lpi_pending.proofs.pending.Pending.clear_all.Goals as goal

pub returns : goal.returns
returns c =
    let rebuilt : List ℕ → PendingSet = λ lpis. record { lpi_bits = c.self.inside.lpi_bits; lpis = lpis } in
    rw (← c.self.view_is) (ap rebuilt (ap lpis_of c.clear.ensures ∙ lpis_of-zeros (length c.self.inside.bitmap)))
