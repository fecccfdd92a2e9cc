use Rattle.std.proofs.Common.{◌≡◌, ℕ, ◌<◌, length, get_or}
use Rattle.guest_windows.specs.Fields.{windows, IsWhole}
use Rattle.guest_windows.specs.declared.frame.Frame.{Frame}
use Rattle.guest_windows.proofs.whole.hold_frames.Given as goal

abbrev pub invariant-loop-at : goal.invariant-loop-at
invariant-loop-at l = record {
  size : length l.frames ≡ length l.fn.frames;
  same : windows l.frames ≡ windows l.fn.frames;
  whole : (j : ℕ) (d : Frame) → j < l.at → IsWhole (get_or l.frames j d);
}
