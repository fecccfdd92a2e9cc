use Rattle.std.proofs.Common.{◌≡◌, ℕ, ◌-◌, ◌/◌, ◌<◌, ◌≤◌, []}
use Rattle.guest_windows.specs.Pages.{rows, page_row, byte_in}
use Rattle.guest_windows.proofs.frame.Frame.next_held.Given as goal

abbrev pub invariant-loop-page : goal.invariant-loop-page
invariant-loop-page l = record {
  low : l.from ≤ l.page;
  zero : (i : ℕ) → l.from ≤ i / 65536 → i / 65536 < l.page → byte_in (rows l.self.groups.items) i ≡ 0;
  skipped : (page : ℕ) → l.from ≤ page → page < l.page → page_row (rows l.self.groups.items) page ≡ [];
}

abbrev pub decreases-loop-page : goal.decreases-loop-page
decreases-loop-page l = l.count - l.page
