use Rattle.std.proofs.Common.{sym, subst}
use Rattle.its_plain.specs.declared.layout.Layout.{Layout}
use Rattle.lpi_pending.specs.InHand.{RedistParts}
use Rattle.owned_parts.specs.Owned.{AreAllInHand}
use Rattle.its_c.proofs.kept.Kept.has_room_for_tables.Goals as goal

pub written_tables-requires-clause-parts : goal.written_tables-requires-clause-parts
written_tables-requires-clause-parts c =
    let p = c.parts-parts.result.now in let i = c.in_place.result in
    subst (λ (l : Layout). AreAllInHand l.shape i.redists.now) (sym c.in_place.ensures.layout)
    (subst (λ (rs : RedistParts). AreAllInHand p.layout.shape rs) (sym c.in_place.ensures.redists) c.parts-parts.ensures.whole.all_in_hand)
