use Rattle.std.proofs.Common.{◌≡◌, ◌++◌, [], ◌∷◌, drop}
use Rattle.std.specs.List.{flat_map}
use Rattle.its_plain.specs.Regions as spec
use Rattle.plain_machine.proofs.saved_lists.add_itts.Given as goal

abbrev pub invariant-loop-entry : goal.invariant-loop-entry
invariant-loop-entry l = l.areas.items ++ flat_map (λ d. spec.itt_area l.its d ∷ []) (drop l.entry-index l.devices) ≡ l.initial.areas.items
    ++ flat_map (λ d. spec.itt_area l.its d ∷ []) l.devices
