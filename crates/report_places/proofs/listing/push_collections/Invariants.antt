use Rattle.std.proofs.Common.{◌≡◌, ◌++◌}
use Rattle.std.specs.FinMap.{entries}
use Rattle.std.specs.String.{string_bytes}
use Rattle.report_places.specs.Lists.{collections_text}
use Rattle.report_places.proofs.listing.push_collections.Given as goal

-- with those that are left it is the whole text
abbrev pub invariant-loop-icid : goal.invariant-loop-icid
invariant-loop-icid l =
    string_bytes l.out ++ collections_text l.its l.icid-iterator
    ≡ string_bytes l.initial.out ++ collections_text l.its (entries l.maps.maps.collections)
