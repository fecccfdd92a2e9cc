use Rattle.std.proofs.Common.{◌≡◌, ◌++◌, map, take}
use Rattle.std.specs.String.{string_bytes}
use Rattle.owned_parts.specs.Owned.{state_of_parts}
use Rattle.report_places.specs.Lists.{lpis_text}
use Rattle.report_places.proofs.listing.push_lpis.Given as goal

abbrev pub invariant-loop-intid : goal.invariant-loop-intid
invariant-loop-intid l =
    string_bytes l.out ≡ string_bytes l.initial.out ++ lpis_text (state_of_parts l.parts) l.vcpu.0 (map (λ i. i.0) (take l.intid-index l.pending))
