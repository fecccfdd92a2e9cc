use Rattle.std.proofs.Common.{◌≡◌, ◌⊎◌, ℕ, ◌+◌, ◌-◌, ◌*◌, ◌/◌, ◌<◌, ◌≤◌}
use Rattle.guest_windows.specs.Pages.{rows, byte_in}
use Rattle.guest_windows.proofs.frame.Frame.forget_at.Given as goal

abbrev pub invariant-loop-page : goal.invariant-loop-page
invariant-loop-page l = record {
  low : l.start < 65536 * l.page + 65536;
  here : (i : ℕ) → l.start ≤ i → i < l.end → i / 65536 < l.page → byte_in (rows l.self.groups.items) i ≡ 0;
  others : (i : ℕ) → i < l.fn.self.len → (i < l.start) ⊎ (l.end ≤ i) → byte_in (rows l.self.groups.items) i ≡ byte_in (rows l.fn.self.groups.items) i;
  base : l.self.base ≡ l.fn.self.base;
  len : l.self.len ≡ l.fn.self.len;
}

abbrev pub decreases-loop-page : goal.decreases-loop-page
decreases-loop-page l = (l.end - 1) / 65536 + 1 - l.page
