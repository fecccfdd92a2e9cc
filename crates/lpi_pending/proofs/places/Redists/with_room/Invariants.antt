use Rattle.std.proofs.Common.{◌≡◌, None, replicate}
use Rattle.lpi_pending.proofs.places.Redists.with_room.Given as goal

abbrev pub invariant-loop : goal.invariant-loop
invariant-loop l = record {
  confs : l.confs.items ≡ replicate l.counter None;
  pends : l.pends.items ≡ replicate l.counter None;
}
