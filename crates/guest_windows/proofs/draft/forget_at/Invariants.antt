use Rattle.std.proofs.Common.{◌≡◌, ◌⊎◌, ◌≢◌, ℕ, ◌+◌, ◌-◌, ◌<◌, ◌≤◌}
use Rattle.guest_windows.specs.Drafts.{own_of, byte_laid}
use Rattle.guest_windows.proofs.draft.forget_at.Given as goal

abbrev pub invariant-loop-done : goal.invariant-loop-done
invariant-loop-done l = record {
  within : l.done ≤ l.len;
  here : (k : ℕ) → k < l.done → byte_laid l.chunks.items l.frame l.window (l.start + k) ≡ 0;
  others : (i : ℕ) → (i < l.start) ⊎ (l.start + l.done ≤ i)
      → byte_laid l.chunks.items l.frame l.window i ≡ byte_laid l.fn.chunks.items l.frame l.window i;
  apart : (k page : ℕ) → k ≢ l.window → own_of l.chunks.items k page ≡ own_of l.fn.chunks.items k page;
}

abbrev pub decreases-loop-done : goal.decreases-loop-done
decreases-loop-done l = l.len - l.done
