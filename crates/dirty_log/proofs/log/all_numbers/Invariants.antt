use Rattle.std.proofs.Common.{◌≡◌, ℕ, take}
use Rattle.guest_windows.specs.Fields.{pairs}
use Rattle.dirty_log.specs.Listing.{is_in}
use Rattle.dirty_log.specs.Pages.{is_there}
use Rattle.dirty_log.proofs.log.all_numbers.Given as goal

abbrev pub invariant-loop-window : goal.invariant-loop-window
invariant-loop-window l = (n : ℕ) → is_in n l.numbers.items ≡ is_there (pairs (take l.window-index l.windows)) n
