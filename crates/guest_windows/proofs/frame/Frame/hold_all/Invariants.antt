use Rattle.std.proofs.Common.{◌≡◌, ℕ, ◌/◌, ◌<◌, length}
use Rattle.guest_windows.specs.Pages.{rows, row_at, SameBytes}
use Rattle.guest_windows.proofs.frame.Frame.hold_all.Given as goal

abbrev pub invariant-loop-page : goal.invariant-loop-page
invariant-loop-page l = record {
  same : SameBytes (rows l.fn.self.groups.items) (rows l.self.groups.items);
  held : (i : ℕ) → i / 65536 < l.page → length (row_at (rows l.self.groups.items) i) ≡ 65536;
  base : l.self.base ≡ l.fn.self.base;
  len : l.self.len ≡ l.fn.self.len;
}
