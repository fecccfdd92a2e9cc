use Rattle.std.proofs.Common.{ap, ◌∙◌}
use Rattle.std.specs.Ordering.{nat_cmp}
use Rattle.std.specs.Cmp.{nat_cmp_total}
use Rattle.std.specs.FinMap.{nat_cmp-IsAntisymmetric, find}
use Rattle.its_types.specs.Maps.{Maps, device_of}
use Rattle.plain_machine.proofs.Entries.{got}
use Rattle.plain_machine.proofs.maps.MapLists.device.Goals as goal

pub returns : goal.returns
returns c = c.find.ensures ∙ ap (find nat_cmp c.args.dev.0) c.deref.ensures.value ∙ got nat_cmp nat_cmp_total nat_cmp-IsAntisymmetric
    c.self.inside.devices.items c.args.dev.0 c.self.invariant.devices ∙ ap (λ (m : Maps). device_of m c.args.dev.0) c.self.view_is
