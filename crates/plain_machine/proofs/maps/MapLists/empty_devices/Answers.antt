use Rattle.std.proofs.Common.{refl}
use Rattle.std.specs.Ordering.{nat_cmp}
use Rattle.std.specs.Cmp.{nat_cmp_total}
use Rattle.std.specs.FinMap.{nat_cmp-IsAntisymmetric}
use Rattle.its_types.specs.Maps.{pair_cmp}
use Rattle.plain_machine.proofs.Entries.{none_is, pair_total, pair_exact}
use Rattle.plain_machine.proofs.maps.MapLists.empty_devices.Goals as goal

pub returns : goal.returns
returns c = rw (
  ← c.self.view_is,
  c.clear.ensures.items,
  c.clear-2.ensures.items,
  none_is nat_cmp nat_cmp_total nat_cmp-IsAntisymmetric,
  none_is pair_cmp
      pair_total pair_exact,
) refl
