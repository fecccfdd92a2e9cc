use Rattle.std.proofs.Common.{◌≡◌, true, sym, ap, ◌∙◌}
use Rattle.guest_windows.specs.Windows.{inside}
use Rattle.its_types.specs.Ranges.{lpi_count, pending_bytes}
use Rattle.its_types.specs.declared.translation.Bases.{Bases}
use Rattle.lpi_pending.specs.Pend as pend
use Rattle.lpi_pending.proofs.TurnedOn.{turned_on_is}
use Rattle.lpi_pending.proofs.gicr.turn_on.Goals as goal

pub returns-then-inside-2-clause-done : goal.returns-then-inside-2-clause-done
returns-then-inside-2-clause-done c =
    let s = c.args.shape.now in
    let m = c.args.memory.now in
    let k = c.args.conf.now in
    let config_in : inside m k.bases.prop.table.0 (lpi_count s.lpi_bits) ≡ true =
    ap (λ (b : Bases). inside m b.prop.table.0 (lpi_count s.lpi_bits)) (sym c.bases.ensures)
    ∙ ap (inside m c.bases.result.now.prop.table.0) (sym c.lpi_count.ensures.count) ∙ sym c.inside.ensures.inside ∙ c.if-inside.true in
    let pending_in : inside m k.bases.pend.table.0 (pending_bytes s.lpi_bits) ≡ true =
    ap (λ (b : Bases). inside m b.pend.table.0 (pending_bytes s.lpi_bits)) (sym c.bases.ensures)
    ∙ ap (inside m c.bases.result.now.pend.table.0) (sym c.pending_bytes.ensures.bytes) ∙ sym c.inside-then-inside.ensures.inside
    ∙ c.if-inside-2.true in
    let pended : c.turn_on-then-inside-2.new.self ≡ pend.turned_on m k.bases.pend c.args.pend.now = c.turn_on-then-inside-2.ensures
    ∙ ap (λ (b : Bases). pend.turned_on m b.pend c.args.pend.now) c.bases.ensures in
    rw (c.turn_on.ensures, pended) (turned_on_is s m k c.args.pend.now c.requires.conf_lpis c.requires.pend_lpis config_in pending_in)
