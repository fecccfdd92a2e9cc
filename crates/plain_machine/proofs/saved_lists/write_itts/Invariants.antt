use Rattle.std.proofs.Common.{◌≡◌, [], ◌∷◌, ◌^◌, drop}
use Rattle.std.specs.List.{flat_map}
use Rattle.its_plain.specs.Saved as spec
use Rattle.plain_machine.specs.Memories.{put_all}
use Rattle.plain_machine.proofs.saved_lists.write_itts.Given as goal

abbrev pub invariant-loop-entry : goal.invariant-loop-entry
invariant-loop-entry l = put_all l.memory (flat_map (λ d. record { base = d.1.itt.0; count = 2 ^ d.1.bits; word = spec.event_word l.maps d.0 } ∷ [])
    (drop l.entry-index l.devices)) ≡ put_all l.initial.memory
    (flat_map (λ d. record { base = d.1.itt.0; count = 2 ^ d.1.bits; word = spec.event_word l.maps d.0 } ∷ []) l.devices)
