use Rattle.std.proofs.Common.{◌≡◌, [], replicate}
use Rattle.std.specs.Vec.{vec_len}
use Rattle.guest_windows.specs.Pages.{groups_of}
use Rattle.guest_windows.proofs.frame.no_groups.Given as goal

abbrev pub invariant-loop : goal.invariant-loop
invariant-loop l = record {
  count : vec_len l.groups ≡ l.counter;
  none : groups_of l.groups.items ≡ replicate l.counter [];
}
