use Rattle.std.proofs.Common.{◌≡◌, ◌+◌, ◌<◌, ℕ}
use Rattle.std.specs.List.{sum_by}
use Rattle.its_maps.specs.Counting.{named, naming, one, IsTally}
use Rattle.its_maps.specs.Walks.{events_left}
use Rattle.its_maps.proofs.counts.Counts.leave_all.Given as goal

-- with those that are left
abbrev pub invariant-loop-event : goal.invariant-loop-event
invariant-loop-event l = record {
  can_next : (goal.iterator-loop-event).can_next l.event-iterator;
  is_finite : (goal.iterator-loop-event).is_finite l.event-iterator;
  devices : l.self.devices ≡ l.fn.self.devices;
  events : l.self.events + sum_by (λ e. one e.1) (events_left l.fn.events) ≡ l.fn.self.events + sum_by (λ e. one e.1) (events_left l.event-iterator);
  tally : IsTally l.self.tally;
  named : (n : ℕ) → n < 65536 → named l.self.tally n + sum_by (λ e. naming n e.1) (events_left l.fn.events) ≡ named l.fn.self.tally n
      + sum_by (λ e. naming n e.1) (events_left l.event-iterator);
}
