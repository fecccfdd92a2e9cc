-- The parts of signals and steps, by what the call finds.
use Rattle.std.proofs.Common.{ℕ, Bool, List, [], ◌∷◌, Option, Some, None, Result, if◌then◌else◌}
use Rattle.std.specs.Option.{option_map}
use Rattle.std.specs.Result.{result_ok}
use Rattle.its_command.specs.Commands.{decoded}
use Rattle.its_types.specs.declared.ids.Target.{Target}
use Rattle.its_types.specs.declared.machine.Part.{Part}
use Rattle.its_types.specs.declared.machine.Part.TheVariants.{Maps as MapsOf, Mem}
use Rattle.its_plain.specs.Plain.{Plain}
use Rattle.its_plain.specs.Parts.{pend_at, needed}
use Rattle.its_plain.specs.declared.call.Cause.{Cause}

-- where a translator's maps send the event
abbrev pub parts_of_signal : ℕ → Result Target Cause → List Part
parts_of_signal its found = MapsOf its ∷ pend_at (option_map (λ t. t.vcpu) (result_ok found))

-- the bytes of the next command
abbrev pub needed_at : Plain → ℕ → Option (List ℕ) → List Part
needed_at u i None = []
needed_at u i (Some bytes) = needed u i (decoded bytes)

abbrev pub parts_of_step : Plain → ℕ → Bool → Option (List ℕ) → List Part
parts_of_step u i idle bytes = MapsOf i ∷ Mem ∷ (if idle then [] else needed_at u i bytes)
