use Rattle.std.proofs.Common.{◌≡◌, ◌-◌, ◌*◌, ◌≤◌, length, map}
use Rattle.its_types.specs.declared.ids.Intid.{Intid}
use Rattle.lpi_pending.proofs.Nexts.{lpis_below}
use Rattle.lpi_pending.proofs.pending.Pending.lpis.Given as goal

abbrev pub invariant-loop-at : goal.invariant-loop-at
invariant-loop-at l = record {
  within : l.from ≤ 64 * length l.self-inside.bitmap;
  are : map (λ (i : Intid). i.0) l.lpis.items ≡ lpis_below l.self-inside.bitmap l.from;
}

abbrev pub decreases-loop-at : goal.decreases-loop-at
decreases-loop-at l = 64 * length l.self-inside.bitmap - l.from
