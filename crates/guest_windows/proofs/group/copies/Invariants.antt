use Rattle.std.proofs.Common.{◌≡◌, take}
use Rattle.guest_windows.specs.Groups.{group_rows}
use Rattle.guest_windows.proofs.group.copies.Given as goal

abbrev pub invariant-loop-chunk : goal.invariant-loop-chunk
invariant-loop-chunk l = group_rows l.copies.items ≡ group_rows (take l.chunk-index l.chunks)
