use Rattle.std.proofs.Common.{Ok, sym, subst, refl}
use Rattle.owned_parts.specs.declared.parts.Parts.{Parts}
use Rattle.owned_machine.specs.Migrations.{GoesOnFrom}
use Rattle.owned_machine.proofs.Migrating.{lent_whole, moved_from, precopy_windows, precopy_goes}
use Rattle.owned_machine.proofs.migrations.precopied.Goals as goal

pub moved-requires : goal.moved-requires
moved-requires c =
    let at = c.in_place in
    lent_whole c.args.parts.now at.result c.requires at.ensures.state at.ensures.layout at.ensures.redists

pub go_on_in_copy-count-requires : goal.go_on_in_copy-count-requires
go_on_in_copy-count-requires c =
    let p = c.args.parts.now in
    let next = c.in_ok-next.next in
    let h = moved_from p c.in_place.result next c.in_place.ensures.state c.in_ok-next.ensures in
    precopy_windows p next c.mark_saved.new.parts c.take.result c.requires h.0 h.1 c.mark_saved.ensures c.take.ensures.value c.take.result refl

pub returns : goal.returns
returns c =
    let p = c.args.parts.now in
    let next = c.in_ok-next.next in
    let h = moved_from p c.in_place.result next c.in_place.ensures.state c.in_ok-next.ensures in
    let last = c.go_on_in_copy-count in
    subst (λ (q : Parts). GoesOnFrom p (Ok last.result) q) (sym c.go_on.ensures)
    (precopy_goes p next c.mark_saved.new.parts c.take.result c.requires h.0 h.1 c.mark_saved.ensures c.take.ensures.value c.take.result refl
    last.new.memory last.result last.ensures.memory last.ensures.count)
