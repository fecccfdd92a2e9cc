use Rattle.std.proofs.Common.{◌≡◌, take, map}
use Rattle.guest_windows.specs.Fields.{listed}
use Rattle.guest_windows.proofs.listed.list_frames.Given as goal

abbrev pub invariant-loop-frame : goal.invariant-loop-frame
invariant-loop-frame l = l.list.items ≡ map listed (take l.frame-index l.frames)
