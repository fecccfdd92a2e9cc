-- A second memory beside the first.
use Rattle.std.specs.Prelude.{◌≡◌, List, map, Option, Some}
use Rattle.guest_windows.specs.Windows.{Window, extent}
use Rattle.dirty_log.specs.declared.tracked.Tracked.{Tracked}

-- it has the windows of the first, if there is one
abbrev pub HasSameWindows : List Window → Option Tracked → Type 0
HasSameWindows memory track = (t : Tracked) → track ≡ Some t → map extent t.copy ≡ map extent memory
