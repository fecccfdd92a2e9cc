use Rattle.std.proofs.Common.{refl}
use Rattle.std.specs.Prelude.{not, ◌==◌}
use Rattle.std.specs.Ordering.{nat_cmp}
use Rattle.std.specs.Cmp.{nat_cmp_total}
use Rattle.std.specs.FinMap.{nat_cmp-IsAntisymmetric}
use Rattle.plain_machine.proofs.Entries.{kept_is, kept_rise}
use Rattle.plain_machine.proofs.maps.MapLists.unmap_collection.Goals as goal

pub invariant_of-self : goal.invariant_of-self
invariant_of-self c = record {
  devices = c.self.invariant.devices;
  events = c.self.invariant.events;
  collections = rw c.remove_collection.ensures (kept_rise nat_cmp nat_cmp_total nat_cmp-IsAntisymmetric c.self.inside.collections.items
      (λ k. not (k == c.args.icid.0)) c.self.invariant.collections);
}

pub returns : goal.returns
returns c = rw (
  ← c.self.view_is,
  c.remove_collection.ensures,
  kept_is nat_cmp nat_cmp_total nat_cmp-IsAntisymmetric c.self.inside.collections.items
      (λ k. not (k == c.args.icid.0)) c.self.invariant.collections,
) refl
