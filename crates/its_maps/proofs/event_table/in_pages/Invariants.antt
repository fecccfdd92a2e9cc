use Rattle.std.proofs.Common.{◌≡◌, drop}
use Rattle.its_maps.proofs.Refilled.{filled}
use Rattle.its_maps.proofs.event_table.in_pages.Given as goal

-- with the events that are left the pages have all
abbrev pub invariant-loop-ev : goal.invariant-loop-ev
invariant-loop-ev l = filled l.pages.map (drop l.ev-index l.ev-items) ≡ l.events.map
