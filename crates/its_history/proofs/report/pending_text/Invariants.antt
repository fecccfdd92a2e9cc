use Rattle.std.proofs.Common.{◌≡◌, ◌++◌, take, map, codes}
use Rattle.std.specs.List.{flat_map}
use Rattle.std.specs.Fmt.{decimal}
use Rattle.std.specs.String.{string_bytes}
use Rattle.its_history.proofs.report.pending_text.Given as goal

abbrev pub invariant-loop-intid : goal.invariant-loop-intid
invariant-loop-intid l = string_bytes l.out ≡ string_bytes l.initial.out ++ flat_map (λ m. codes " " ++ decimal m)
    (map (λ i. i.0) (take l.intid-index l.others))
