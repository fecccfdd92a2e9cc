use Rattle.std.proofs.Common.{◌≡◌, [], replicate}
use Rattle.std.specs.Vec.{vec_len}
use Rattle.guest_windows.specs.Groups.{group_rows}
use Rattle.guest_windows.proofs.group.no_chunks.Given as goal

abbrev pub invariant-loop : goal.invariant-loop
invariant-loop l = record {
  count : vec_len l.chunks ≡ l.counter;
  none : group_rows l.chunks.items ≡ replicate l.counter [];
}
