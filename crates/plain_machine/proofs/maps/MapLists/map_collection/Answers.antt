use Rattle.std.proofs.Common.{refl}
use Rattle.std.specs.Ordering.{nat_cmp}
use Rattle.std.specs.Cmp.{nat_cmp_total}
use Rattle.std.specs.FinMap.{nat_cmp-IsAntisymmetric}
use Rattle.plain_machine.proofs.Entries.{put_is, put_rises}
use Rattle.plain_machine.proofs.maps.MapLists.map_collection.Goals as goal

pub invariant_of-self-2 : goal.invariant_of-self-2
invariant_of-self-2 c = record {
  devices = c.self.invariant.devices;
  events = c.self.invariant.events;
  collections = rw c.in_ok-put.ensures.ok (put_rises nat_cmp nat_cmp_total nat_cmp-IsAntisymmetric c.self.inside.collections.items c.args.icid.0 c.args.vcpu
      c.self.invariant.collections);
}

pub returns : goal.returns
returns c = rw (
  ← c.self.view_is,
  c.in_ok-put.ensures.ok,
  put_is nat_cmp nat_cmp_total nat_cmp-IsAntisymmetric c.self.inside.collections.items c.args.icid.0
      c.args.vcpu c.self.invariant.collections,
) refl
