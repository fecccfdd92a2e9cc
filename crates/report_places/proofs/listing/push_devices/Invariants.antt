use Rattle.std.proofs.Common.{◌≡◌, ◌++◌}
use Rattle.std.specs.FinMap.{entries}
use Rattle.std.specs.String.{string_bytes}
use Rattle.report_places.specs.Lists.{devices_text}
use Rattle.report_places.proofs.listing.push_devices.Given as goal

-- with those that are left it is the whole text
abbrev pub invariant-loop-dev : goal.invariant-loop-dev
invariant-loop-dev l =
    string_bytes l.out ++ devices_text l.its l.maps.maps l.dev-iterator
    ≡ string_bytes l.initial.out ++ devices_text l.its l.maps.maps (entries l.maps.maps.devices)
