-- What a step relies on beside the parts of a state.
use Rattle.std.specs.Prelude.{◌≡◌, ◌<◌, ℕ, true, is_some}
use Rattle.its_types.specs.declared.machine.Shape.{Shape}
use Rattle.lpi_pending.specs.InHand.{RedistParts, conf_in, pend_in}

-- both parts of the redistributor of each virtual processor are in hand
abbrev pub HoldsAll : Shape → RedistParts → Type 0
HoldsAll shape redists = (vcpu : ℕ) → vcpu < shape.vcpus → (is_some (conf_in redists vcpu) ≡ true) × (is_some (pend_in redists vcpu) ≡ true)
