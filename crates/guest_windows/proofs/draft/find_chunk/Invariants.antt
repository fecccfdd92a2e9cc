use Rattle.std.proofs.Common.{◌≡◌, drop}
use Rattle.guest_windows.specs.Drafts.{key_place}
use Rattle.guest_windows.proofs.draft.find_chunk.Given as goal

abbrev pub invariant-loop-at : goal.invariant-loop-at
invariant-loop-at l = key_place l.at (drop l.at l.chunks) l.window l.number ≡ key_place 0 l.chunks l.window l.number
