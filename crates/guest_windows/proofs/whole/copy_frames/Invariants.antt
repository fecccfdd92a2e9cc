use Rattle.std.proofs.Common.{◌≡◌, ℕ, ◌/◌, ◌<◌, ◌≤◌, length, get_or}
use Rattle.std.specs.Prelude.{◌==◌}
use Rattle.guest_windows.specs.Mixed.{mixed_window}
use Rattle.guest_windows.specs.Fields.{window, AllWhole}
use Rattle.guest_windows.specs.declared.frame.Frame.{Frame}
use Rattle.guest_windows.proofs.whole.copy_frames.Given as goal

abbrev pub invariant-loop-at : goal.invariant-loop-at
invariant-loop-at l = record {
  size : length l.frames.items ≡ length l.fn.frames.items;
  copied : (j : ℕ) (d : Frame) → j < l.at → window (get_or l.frames.items j d)
      ≡ mixed_window (λ a. a / 4096 == l.page) (window (get_or l.from j d)) (window (get_or l.fn.frames.items j d));
  left : (j : ℕ) (d : Frame) → l.at ≤ j → get_or l.frames.items j d ≡ get_or l.fn.frames.items j d;
  whole : AllWhole l.frames.items;
}
