use Rattle.std.proofs.Common.{◌≡◌, true, List, ℕ, ap}
use Rattle.its_types.specs.Ranges.{is_lpi}
use Rattle.lpi_pending.specs.PendingSets.{PendingSet}
use Rattle.lpi_pending.proofs.Bitmaps.{lpi_place, set_lpi}
use Rattle.lpi_pending.proofs.pending.Pending.set.Goals as goal

pub returns : goal.returns
returns c =
    let i = c.self.inside in
    let in_range : is_lpi i.lpi_bits c.args.intid.0 ≡ true = rw (← c.self.view_is) at c.requires in
    let place = lpi_place i.lpi_bits i.bitmap c.args.intid.0 c.place-at.result.0 c.place-at.result.1 c.word-word.result in_range c.self.invariant.size
    c.place-at.ensures.word c.place-at.ensures.bit c.word-word.ensures
    in
    let rebuilt : List ℕ → PendingSet = λ lpis. record { lpi_bits = i.lpi_bits; lpis = lpis } in
    rw (← c.self.view_is)
    (ap rebuilt (set_lpi i.bitmap c.put_word.new.self c.args.intid.0 _ _ _ c.with_bit.result place c.with_bit.ensures.same c.with_bit.ensures.others
    c.put_word.ensures))
