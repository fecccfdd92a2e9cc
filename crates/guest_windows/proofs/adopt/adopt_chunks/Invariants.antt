use Rattle.std.proofs.Common.{◌≡◌, length}
use Rattle.guest_windows.specs.Fields.{windows}
use Rattle.guest_windows.specs.Drafts.{laid_from, own_of}
use Rattle.guest_windows.proofs.adopt.adopt_chunks.Given as goal

abbrev pub invariant-loop-chunk : goal.invariant-loop-chunk
invariant-loop-chunk l = laid_from (own_of l.chunks.items) 0 (windows l.frames.items) ≡ laid_from (own_of l.fn.chunks.items) 0 (windows l.fn.frames.items)

abbrev pub decreases-loop-chunk : goal.decreases-loop-chunk
decreases-loop-chunk l = length l.chunks.items
