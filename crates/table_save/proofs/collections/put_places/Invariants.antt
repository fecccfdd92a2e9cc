use Rattle.std.proofs.Common.{◌≡◌, ◌≤◌, ◌-◌, ℕ, List, drop}
use Rattle.std.specs.Prelude.{slice_get}
use Rattle.guest_windows.specs.Drafts.{laid}
use Rattle.its_types.specs.declared.ids.Vcpu.{Vcpu}
use Rattle.its_plain.specs.Saved.{put_words, collection_entry}
use Rattle.table_save.specs.EntriesLeft.{Leaves}
use Rattle.table_save.proofs.collections.put_places.Given as goal

abbrev pub invariant-loop-done : goal.invariant-loop-done
invariant-loop-done l = record {
  within : l.done ≤ l.count;
  written : (es : List (ℕ × Vcpu)) → Leaves l.fn.front es → laid l.draft l.under ≡ put_words (laid l.fn.draft l.under) l.base (λ i. collection_entry (slice_get es i)) l.done;
  left : (es : List (ℕ × Vcpu)) → Leaves l.fn.front es → Leaves l.front (drop l.done es);
}

abbrev pub decreases-loop-done : goal.decreases-loop-done
decreases-loop-done l = l.count - l.done
