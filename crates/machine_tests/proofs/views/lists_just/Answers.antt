use Rattle.std.proofs.Common.{sym, subst}
use Rattle.its_plain.specs.declared.layout.Layout.{Layout}
use Rattle.its_plain.specs.Sound.{IsSound}
use Rattle.lpi_pending.specs.InHand.{RedistParts}
use Rattle.owned_parts.specs.Owned.{AreAllInHand, track_at}
use Rattle.machine_tests.proofs.views.lists_just.Goals as goal

pub written_tables-requires-clause-parts : goal.written_tables-requires-clause-parts
written_tables-requires-clause-parts c =
    let p = c.args.parts.now in
    let i = c.in_place.result in
    subst (λ (l : Layout). AreAllInHand l.shape i.redists.now) (sym c.in_place.ensures.layout)
    (subst (λ (rs : RedistParts). AreAllInHand p.layout.shape rs) (sym c.in_place.ensures.redists) c.requires.all_in_hand)

pub written_tables-requires-clause-sound : goal.written_tables-requires-clause-sound
written_tables-requires-clause-sound c = (track_at c.in_place.result, subst IsSound (sym c.in_place.ensures.state) c.requires.sound)
