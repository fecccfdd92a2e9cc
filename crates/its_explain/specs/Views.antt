-- What is told of a machine's state.
use Rattle.std.specs.Prelude.{ℕ, nat_lt, if◌then◌else◌, Option, Some, None, slice_get}
use Rattle.std.specs.Option.{option_map}
use Rattle.its_plain.specs.Plain.{Plain, Translator, redistributor}
use Rattle.its_types.specs.declared.translation.Bases.{Bases}
use Rattle.call_facts.specs.Lpis.{lpi_state, waiting}
use Rattle.call_facts.specs.Writes.{rule}
use Rattle.call_facts.specs.declared.lpis.LpiState.{LpiState}
use Rattle.call_facts.specs.declared.lpis.Waiting.{Waiting}
use Rattle.call_facts.specs.declared.lpis.Waiting.TheVariants.{Nothing}
use Rattle.call_facts.specs.declared.writes.WriteRule.{WriteRule}

-- the rule for a write of a translator's registers
abbrev pub rule_at : Plain → ℕ → ℕ → ℕ → ℕ → Option WriteRule
rule_at u i off size value = option_map (λ (t : Translator). rule t.regs off size value) (slice_get u.translators i)

-- an LPI at a virtual processor that there is
abbrev pub lpi_at : Plain → ℕ → ℕ → Option LpiState
lpi_at u vcpu intid =
    if nat_lt vcpu u.layout.shape.vcpus then lpi_state u.layout.shape.lpi_bits (redistributor u vcpu) intid else None

-- what waits there
abbrev pub waiting_for : Plain → ℕ → Waiting
waiting_for u vcpu = if nat_lt vcpu u.layout.shape.vcpus then waiting (redistributor u vcpu) else Nothing

-- its LPI registers
abbrev pub bases_at : Plain → ℕ → Option Bases
bases_at u vcpu = if nat_lt vcpu u.layout.shape.vcpus then Some (redistributor u vcpu).bases else None
