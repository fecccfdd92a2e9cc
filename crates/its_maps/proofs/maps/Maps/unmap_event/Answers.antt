use Rattle.std.proofs.Common.{◌≡◌, refl, sym, ap, ◌∙◌, subst}
use Rattle.its_types.specs.Maps.{event_unmapped}
use Rattle.its_maps.proofs.Calls.{after_unmap_event, after_unmap_nothing}
use Rattle.its_maps.proofs.Counted.{some_counted, some_named, after_leaving}
use Rattle.its_maps.proofs.maps.Maps.unmap_event.Goals as goal

pub returns-then-contains-clause-maps : goal.returns-then-contains-clause-maps
returns-then-contains-clause-maps c =
    after_unmap_event c.self.inside.devices.map c.self.inside.collections.map c.args.dev.0 c.get_mut-record.result.now c.get_mut-record.ensures.value
    (record { device = c.get_mut-record.result.now.device; events = c.remove.new.self }) refl c.args.ev.0 c.remove.ensures
    ∙ ap (λ m. event_unmapped m.maps c.args.dev.0 c.args.ev.0) c.self.view_is

pub returns-else-contains-clause-maps : goal.returns-else-contains-clause-maps
returns-else-contains-clause-maps c =
    subst (λ m. m.maps ≡ event_unmapped m.maps c.args.dev.0 c.args.ev.0) c.self.view_is
    (after_unmap_nothing c.self.inside.devices.map c.self.inside.collections.map c.args.dev.0 (sym c.if-contains.ensures) c.args.ev.0)

pub leave-requires-clause-some : goal.leave-requires-clause-some
leave-requires-clause-some c =
    some_counted c.self.inside.counts c.self.inside.devices.map c.self.invariant.1 c.args.dev.0 c.get_mut-record.result.now c.get_mut-record.ensures.value
    c.args.ev.0 c.copied-gone.result (c.copied-gone.ensures ∙ c.get.ensures)

pub leave-requires-clause-named : goal.leave-requires-clause-named
leave-requires-clause-named c =
    some_named c.self.inside.counts c.self.inside.devices.map c.self.invariant.1 c.args.dev.0 c.get_mut-record.result.now c.get_mut-record.ensures.value
    c.args.ev.0 c.copied-gone.result (c.copied-gone.ensures ∙ c.get.ensures)

pub invariant_of-self : goal.invariant_of-self
invariant_of-self c = (
  c.self.invariant.0,
  after_leaving c.self.inside.counts c.self.inside.devices.map c.self.invariant.1 c.args.dev.0 c.get_mut-record.result.now c.get_mut-record.ensures.value
      (record { device = c.get_mut-record.result.now.device; events = c.remove.new.self }) c.leave.new.self c.args.ev.0 c.copied-gone.result
      (c.copied-gone.ensures ∙ c.get.ensures) c.remove.ensures c.leave.ensures.devices c.leave.ensures.events c.leave.ensures.tally c.leave.ensures.named,
)
