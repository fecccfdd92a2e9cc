use Rattle.std.proofs.Common.{◌≡◌, true, ◌∙◌}
use Rattle.its_types.specs.Ranges.{is_lpi}
use Rattle.lpi_pending.proofs.Bitmaps.{lpi_place, has_lpi}
use Rattle.lpi_pending.proofs.pending.Pending.has.Goals as goal

pub returns : goal.returns
returns c =
    let i = c.self.inside in
    let in_range : is_lpi i.lpi_bits c.args.intid.0 ≡ true = rw (← c.self.view_is) at c.requires in
    let place = lpi_place i.lpi_bits i.bitmap c.args.intid.0 c.place-at.result.0 c.place-at.result.1 c.word.result in_range c.self.invariant.size
    c.place-at.ensures.word c.place-at.ensures.bit c.word.ensures
    in
    rw (← c.self.view_is) (c.bit_of.ensures ∙ has_lpi i.bitmap c.args.intid.0 _ _ _ place)
