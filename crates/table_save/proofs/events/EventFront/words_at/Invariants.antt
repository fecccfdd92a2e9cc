use Rattle.std.proofs.Common.{◌≡◌, ℕ, ◌+◌, ◌-◌, ◌<◌, ◌≤◌, length}
use Rattle.std.specs.Prelude.{slice_index}
use Rattle.table_save.specs.Pass.{event_entry_word, PassedEvents}
use Rattle.table_save.proofs.events.EventFront.words_at.Given as goal

abbrev pub invariant-loop-done : goal.invariant-loop-done
invariant-loop-done l = record {
  within : l.done ≤ length l.words;
  size : length l.words ≡ length l.initial.words;
  words : (k : ℕ) → k < l.done → slice_index l.words k ≡ event_entry_word l.fn.self (l.id + k);
  passed : PassedEvents (l.id + l.done) l.fn.self l.self;
}

abbrev pub decreases-loop-done : goal.decreases-loop-done
decreases-loop-done l = length l.words - l.done
