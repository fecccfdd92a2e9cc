use Rattle.std.proofs.Common.{◌≡◌, ℕ, ◌<◌, ◌≤◌, length, get_or}
use Rattle.guest_windows.specs.Windows.{zeros, extent}
use Rattle.guest_windows.specs.Fields.{window, AllWhole}
use Rattle.guest_windows.specs.declared.frame.Frame.{Frame}
use Rattle.guest_windows.proofs.whole.clear_frames.Given as goal

abbrev pub invariant-loop-at : goal.invariant-loop-at
invariant-loop-at l = record {
  size : length l.frames.items ≡ length l.fn.frames.items;
  zero : (j : ℕ) (d : Frame) → j < l.at → window (get_or l.frames.items j d) ≡ zeros (extent (window (get_or l.fn.frames.items j d)));
  left : (j : ℕ) (d : Frame) → l.at ≤ j → get_or l.frames.items j d ≡ get_or l.fn.frames.items j d;
  whole : AllWhole l.frames.items;
}
