use Rattle.std.proofs.Common.{◌<◌, ◌≤◌, ℕ, length}
use Rattle.std.specs.Prelude.{slice_index}
use Rattle.its_fit.specs.Explained.{told_by}
use Rattle.its_fit.proofs.trail.is_whole.Given as goal

abbrev pub invariant-loop-thread : goal.invariant-loop-thread
invariant-loop-thread l = (i : ℕ) → i < l.thread → length (told_by l.told i) ≤ slice_index l.front i
