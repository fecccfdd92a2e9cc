use Rattle.std.proofs.Common.{◌≡◌, ℕ, ◌/◌, ◌<◌}
use Rattle.guest_windows.specs.Fields.{IsWhole}
use Rattle.guest_windows.specs.Pages.{rows, byte_in}
use Rattle.guest_windows.proofs.frame.Frame.clear.Given as goal

abbrev pub invariant-loop-page : goal.invariant-loop-page
invariant-loop-page l = record {
  zero : (i : ℕ) → i / 65536 < l.page → byte_in (rows l.self.groups.items) i ≡ 0;
  whole : IsWhole l.self;
  base : l.self.base ≡ l.fn.self.base;
  len : l.self.len ≡ l.fn.self.len;
}
