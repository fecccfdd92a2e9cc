use Rattle.std.proofs.Common.{refl}
use Rattle.std.specs.Prelude.{not, ◌==◌}
use Rattle.std.specs.Ordering.{nat_cmp}
use Rattle.std.specs.Cmp.{nat_cmp_total}
use Rattle.std.specs.FinMap.{nat_cmp-IsAntisymmetric}
use Rattle.its_types.specs.Maps.{pair_cmp}
use Rattle.plain_machine.proofs.Entries.{kept_is, kept_rise, pair_total, pair_exact}
use Rattle.plain_machine.proofs.maps.MapLists.unmap_device.Goals as goal

pub invariant_of-self : goal.invariant_of-self
invariant_of-self c = record {
  devices = rw c.remove_device.ensures (kept_rise nat_cmp nat_cmp_total nat_cmp-IsAntisymmetric c.self.inside.devices.items (λ k. not (k == c.args.dev.0))
      c.self.invariant.devices);
  events = rw c.remove_events.ensures (kept_rise pair_cmp pair_total pair_exact c.self.inside.events.items (λ k. not (k.0 == c.args.dev.0))
      c.self.invariant.events);
  collections = c.self.invariant.collections;
}

pub returns : goal.returns
returns c = rw (
  ← c.self.view_is,
  c.remove_device.ensures,
  c.remove_events.ensures,
  kept_is nat_cmp nat_cmp_total nat_cmp-IsAntisymmetric
      c.self.inside.devices.items (λ k. not (k == c.args.dev.0)) c.self.invariant.devices,
  kept_is pair_cmp pair_total pair_exact c.self.inside.events.items
      (λ k. not (k.0 == c.args.dev.0)) c.self.invariant.events,
) refl
