use Rattle.std.proofs.Common.{◌≡◌, drop}
use Rattle.guest_windows.specs.Drafts.{own_place}
use Rattle.guest_windows.proofs.draft.find_page.Given as goal

abbrev pub invariant-loop-at : goal.invariant-loop-at
invariant-loop-at l = own_place l.at (drop l.at l.chunks) l.window l.page ≡ own_place 0 l.chunks l.window l.page
