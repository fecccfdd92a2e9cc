use Rattle.std.proofs.Common.{◌≡◌, ◌++◌}
use Rattle.std.specs.String.{string_bytes}
use Rattle.owned_parts.specs.Owned.{state_of_parts}
use Rattle.report_places.specs.Lists.{processors_text}
use Rattle.report_places.proofs.listing.push_processors.Given as goal

abbrev pub invariant-loop-vcpu : goal.invariant-loop-vcpu
invariant-loop-vcpu l = string_bytes l.out ≡ string_bytes l.initial.out ++ processors_text (state_of_parts l.parts) l.vcpu
