use Rattle.std.proofs.Common.{◌≡◌, ℕ, ◌<◌, ◌≤◌, ◌^◌, true, take, get_or}
use Rattle.std.specs.List.{AllByRecursion}
use Rattle.guest_windows.specs.Windows.{inside}
use Rattle.guest_windows.specs.Zeros.{IsZeroIn}
use Rattle.guest_windows.specs.Fields.{windows, IsHeld, NoneHeldIn}
use Rattle.guest_windows.specs.declared.frame.Frame.{Frame}
use Rattle.guest_windows.proofs.pages.first_page.Given as goal

abbrev pub invariant-loop-frame : goal.invariant-loop-frame
invariant-loop-frame l = record {
  zero : AllByRecursion (IsZeroIn l.from.0 l.first.0.0) (windows (take l.frame-index l.frames));
  from : 0 < l.first.1 → l.from.0 ≤ l.first.0.0;
  part : 0 < l.first.1 → inside (windows l.frames) l.first.0.0 l.first.1 ≡ true;
  few : l.first.1 ≤ 65536;
  none : l.first.1 ≡ 0 → l.first.0.0 ≡ 2 ^ 52;
  held : 0 < l.first.1 → IsHeld l.frames l.first.0.0;
  skipped : (j : ℕ) (other : Frame) → j < l.frame-index → NoneHeldIn l.from.0 l.first.0.0 (get_or l.frames j other);
}
