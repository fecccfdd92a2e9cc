use Rattle.std.proofs.Common.{◌≡◌, ◌++◌}
use Rattle.std.specs.String.{string_bytes}
use Rattle.its_maps.specs.Walks.{events_left}
use Rattle.its_types.specs.Maps.{events_at}
use Rattle.report_places.specs.Lists.{events_text}
use Rattle.report_places.proofs.listing.push_events.Given as goal

-- with those that are left it is the whole text
abbrev pub invariant-loop-ev : goal.invariant-loop-ev
invariant-loop-ev l =
    string_bytes l.out ++ events_text l.its l.dev.0 (events_left l.ev-iterator)
    ≡ string_bytes l.initial.out ++ events_text l.its l.dev.0 (events_at l.maps.maps l.dev.0)
