use Rattle.std.proofs.Common.{sym, ap, ◌∙◌, subst}
use Rattle.its_types.specs.Maps.{device_unmapped}
use Rattle.its_maps.specs.Counting.{AreCounted}
use Rattle.its_maps.specs.View.{shown}
use Rattle.its_maps.proofs.Calls.{after_unmap_device}
use Rattle.its_maps.proofs.maps.Maps.unmap_device.Goals as goal

pub returns-clause-maps : goal.returns-clause-maps
returns-clause-maps c =
    ap (λ d. shown d c.self.inside.collections.map) c.remove.ensures
    ∙ after_unmap_device c.self.inside.devices.map c.self.inside.collections.map c.args.dev.0
    ∙ ap (λ m. device_unmapped m.maps c.args.dev.0) c.self.view_is

pub invariant_of-self : goal.invariant_of-self
invariant_of-self c = (c.self.invariant.0, subst (AreCounted c.leave_device.new.counts) (sym c.remove.ensures) c.leave_device.ensures)
