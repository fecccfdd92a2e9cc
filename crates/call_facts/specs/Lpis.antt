-- An LPI at a redistributor (IHI 0069, section 5.1).
use Rattle.std.specs.Prelude.{ℕ, Bool, true, false, if◌then◌else◌, Option, Some, None, List, [], ◌∷◌}
use Rattle.gicr_regs.specs.Redistributors.{Redistributor}
use Rattle.its_types.specs.Lpis.{is_pending, is_enabled, priority_of, first_by_priority}
use Rattle.its_types.specs.Ranges.{is_lpi}
use Rattle.call_facts.specs.declared.lpis.LpiState.{LpiState}
use Rattle.call_facts.specs.declared.lpis.PendingChange.{PendingChange}
use Rattle.call_facts.specs.declared.lpis.PendingChange.TheVariants.{Nowhere, Absent, Began, Ended, Stayed}
use Rattle.call_facts.specs.declared.lpis.Waiting.{Waiting}
use Rattle.call_facts.specs.declared.lpis.Waiting.TheVariants.{Nothing, NotEnabled, Enabled}

-- how it stands, if the number is an LPI's
abbrev pub lpi_state : ℕ → Redistributor → ℕ → Option LpiState
lpi_state bits r intid =
    if is_lpi bits intid
    then Some (record { pending = is_pending intid r.pending; enabled = is_enabled r.config intid; priority = priority_of r.config intid })
    else None

abbrev pub change_of : Bool → Bool → PendingChange
change_of false false = Absent
change_of false true = Began
change_of true false = Ended
change_of true true = Stayed

abbrev pub pending_change : Option LpiState → Option LpiState → PendingChange
pending_change None after = Nowhere
pending_change (Some before) None = Nowhere
pending_change (Some before) (Some after) = change_of before.pending after.pending

-- the lowest of those that are pending
abbrev pub lowest : List ℕ → Waiting
lowest [] = Nothing
lowest (x ∷ xs) = NotEnabled (record { 0 = x })

abbrev pub first_or_lowest : Redistributor → Option ℕ → Waiting
first_or_lowest r None = lowest r.pending
first_or_lowest r (Some intid) = Enabled (record { 0 = intid }) (priority_of r.config intid)

-- no priority is 255 or above, so below this mask are all that are enabled
abbrev pub waiting : Redistributor → Waiting
waiting r = first_or_lowest r (first_by_priority r.config 255 r.pending)
