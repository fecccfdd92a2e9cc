use Rattle.std.proofs.Common.{◌≡◌, false, refl}
use Rattle.its_types.specs.Ranges.{is_lpi}
use Rattle.lpi_pending.proofs.Bitmaps.{not_pending}
use Rattle.lpi_pending.proofs.pending.Pending.claimable.Goals as goal

pub returns-then-not-in_range-clause-found : goal.returns-then-not-in_range-clause-found
returns-then-not-in_range-clause-found c =
    let i = c.self.inside in
    let isnt : is_lpi i.lpi_bits c.args.intid.0 ≡ false = cc in
    rw (← c.self.view_is, not_pending i.lpi_bits i.bitmap c.args.intid.0 c.self.invariant.size isnt) refl
