use Rattle.std.proofs.Common.{◌≡◌, ◌≤◌, ◌-◌}
use Rattle.its_types.specs.Maps.{events_at}
use Rattle.its_plain.specs.Saved.{put_words}
use Rattle.guest_windows.specs.Drafts.{laid}
use Rattle.table_save.specs.Pass.{event_entry_word, PassedEvents}
use Rattle.table_save.proofs.events.put_itt.Given as goal

abbrev pub invariant-loop-done : goal.invariant-loop-done
invariant-loop-done l = record {
  within : l.done ≤ l.count;
  written : (laid l.draft l.under) ≡ put_words (laid l.fn.draft l.under) l.device.itt.0 (event_entry_word (events_at l.fn.maps.maps l.fn.dev.0)) l.done;
  passed : PassedEvents l.done (events_at l.fn.maps.maps l.fn.dev.0) l.front;
}

abbrev pub decreases-loop-done : goal.decreases-loop-done
decreases-loop-done l = l.count - l.done
