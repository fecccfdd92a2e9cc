use Rattle.std.proofs.Common.{◌≡◌, take}
use Rattle.guest_windows.specs.Chunks.{page_rows}
use Rattle.guest_windows.proofs.chunk.copies.Given as goal

abbrev pub invariant-loop-page : goal.invariant-loop-page
invariant-loop-page l = page_rows l.copies.items ≡ page_rows (take l.page-index l.pages)
