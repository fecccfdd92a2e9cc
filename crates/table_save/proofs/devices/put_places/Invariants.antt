use Rattle.std.proofs.Common.{◌≡◌, ◌+◌, ◌-◌, ◌≤◌}
use Rattle.its_plain.specs.Saved.{put_words}
use Rattle.guest_windows.specs.Drafts.{laid}
use Rattle.table_save.specs.Pass.{device_entry_word, PassedDevices}
use Rattle.table_save.proofs.devices.put_places.Given as goal

abbrev pub invariant-loop-done : goal.invariant-loop-done
invariant-loop-done l = record {
  within : l.done ≤ l.count;
  written : (laid l.draft l.under) ≡ put_words (laid l.fn.draft l.under) l.base (λ i. device_entry_word l.fn.front (l.first + i)) l.done;
  passed : PassedDevices (l.first + l.done) l.fn.front l.front;
}

abbrev pub decreases-loop-done : goal.decreases-loop-done
decreases-loop-done l = l.count - l.done
