use Rattle.std.proofs.Common.{◌≡◌, [], replicate}
use Rattle.std.specs.Vec.{vec_len}
use Rattle.guest_windows.specs.Chunks.{page_rows}
use Rattle.guest_windows.proofs.chunk.no_pages.Given as goal

abbrev pub invariant-loop : goal.invariant-loop
invariant-loop l = record {
  count : vec_len l.pages ≡ l.counter;
  none : page_rows l.pages.items ≡ replicate l.counter [];
}
