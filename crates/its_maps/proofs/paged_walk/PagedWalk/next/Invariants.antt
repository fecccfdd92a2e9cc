use Rattle.std.proofs.Common.{◌≡◌, ◌+◌, ◌*◌, ◌≤◌, ◌++◌, length}
use Rattle.its_maps.specs.Pages.{slots_from, paged, EachNumberFits, FollowFrom}
use Rattle.its_maps.specs.declared.page.TheConstants.{PLACES}
use Rattle.its_maps.proofs.paged_walk.PagedWalk.next.Given as goal

-- what is passed over has no entry
abbrev pub invariant-loop-slot : goal.invariant-loop-slot
invariant-loop-slot g l =
    (slots_from l.initial.self-inside.key l.initial.self-inside.slots.now ++ paged l.initial.self-inside.pages.now ≡ slots_from l.self-inside.key
    l.self-inside.slots.now ++ paged l.self-inside.pages.now)
    × (l.self-inside.key + length l.self-inside.slots.now ≤ 4294967296)
    × EachNumberFits l.self-inside.pages.now
    × FollowFrom (l.self-inside.key + length l.self-inside.slots.now) l.self-inside.pages.now

abbrev pub decreases-loop-slot : goal.decreases-loop-slot
decreases-loop-slot g l = length l.self-inside.slots.now + (PLACES + 1) * length l.self-inside.pages.now
