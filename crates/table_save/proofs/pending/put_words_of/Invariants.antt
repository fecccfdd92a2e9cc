use Rattle.std.proofs.Common.{◌≡◌, ◌+◌, ◌*◌, ◌-◌, ◌≤◌}
use Rattle.its_plain.specs.Saved.{put_words, pending_word}
use Rattle.guest_windows.specs.Drafts.{laid}
use Rattle.table_save.proofs.pending.put_words_of.Given as goal

abbrev pub invariant-loop-done : goal.invariant-loop-done
invariant-loop-done l = record {
  within : l.done ≤ l.count;
  written : (laid l.draft l.under) ≡ put_words (laid l.fn.draft l.under) l.base (λ i. pending_word l.pending.lpis (1024 + 8 * i)) l.done;
}

abbrev pub decreases-loop-done : goal.decreases-loop-done
decreases-loop-done l = l.count - l.done
