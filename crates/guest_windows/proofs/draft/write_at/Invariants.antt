use Rattle.std.proofs.Common.{◌≡◌, ◌⊎◌, ◌≢◌, ℕ, ◌+◌, ◌-◌, ◌<◌, ◌≤◌, length}
use Rattle.std.specs.Prelude.{slice_index}
use Rattle.guest_windows.specs.Drafts.{own_of, byte_laid}
use Rattle.guest_windows.proofs.draft.write_at.Given as goal

abbrev pub invariant-loop-done : goal.invariant-loop-done
invariant-loop-done l = record {
  within : l.done ≤ length l.bytes;
  here : (k : ℕ) → k < l.done → byte_laid l.chunks.items l.frame l.window (l.start + k) ≡ slice_index l.bytes k;
  others : (i : ℕ) → (i < l.start) ⊎ (l.start + l.done ≤ i)
      → byte_laid l.chunks.items l.frame l.window i ≡ byte_laid l.fn.chunks.items l.frame l.window i;
  apart : (k page : ℕ) → k ≢ l.window → own_of l.chunks.items k page ≡ own_of l.fn.chunks.items k page;
}

abbrev pub decreases-loop-done : goal.decreases-loop-done
decreases-loop-done l = length l.bytes - l.done
