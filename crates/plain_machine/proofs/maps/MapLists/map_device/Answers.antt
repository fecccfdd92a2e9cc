use Rattle.std.proofs.Common.{refl}
use Rattle.std.specs.Prelude.{not, ◌==◌}
use Rattle.std.specs.Ordering.{nat_cmp}
use Rattle.std.specs.Cmp.{nat_cmp_total}
use Rattle.std.specs.FinMap.{nat_cmp-IsAntisymmetric}
use Rattle.its_types.specs.Maps.{pair_cmp}
use Rattle.plain_machine.proofs.Entries.{put_is, kept_is, put_rises, kept_rise, pair_total, pair_exact}
use Rattle.plain_machine.proofs.maps.MapLists.map_device.Goals as goal

pub invariant_of-self-2 : goal.invariant_of-self-2
invariant_of-self-2 c = record {
  devices = rw c.in_ok-put.ensures.ok (put_rises nat_cmp nat_cmp_total nat_cmp-IsAntisymmetric c.self.inside.devices.items c.args.dev.0 c.new.result
      c.self.invariant.devices);
  events = rw c.remove_events.ensures (kept_rise pair_cmp pair_total pair_exact c.self.inside.events.items (λ k. not (k.0 == c.args.dev.0))
      c.self.invariant.events);
  collections = c.self.invariant.collections;
}

pub returns : goal.returns
returns c = rw (
  ← c.self.view_is,
  c.in_ok-put.ensures.ok,
  c.remove_events.ensures,
  put_is nat_cmp nat_cmp_total nat_cmp-IsAntisymmetric
      c.self.inside.devices.items c.args.dev.0 c.new.result c.self.invariant.devices,
  c.new.ensures,
  kept_is pair_cmp pair_total pair_exact
      c.self.inside.events.items (λ k. not (k.0 == c.args.dev.0)) c.self.invariant.events,
) refl
