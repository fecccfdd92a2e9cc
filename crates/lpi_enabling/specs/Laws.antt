-- What is claimed of LPIs that are turned on.
use Rattle.std.specs.Prelude.{◌≡◌, ℕ, true, false, List}
use Rattle.its_plain.specs.Plain.{Plain, redistributor, is_on}
use Rattle.its_plain.specs.Answer.{answer}
use Rattle.its_plain.specs.Described.{IsFirstState}
use Rattle.its_plain.specs.Runs.{Leg, IsRun, IsPartialRun}
use Rattle.its_plain.specs.Saved.{moved}
use Rattle.its_plain.specs.declared.call.Call.{Call}
use Rattle.its_plain.specs.declared.call.Entry.{Entry}
use Rattle.its_plain.specs.declared.desc.Desc.{Desc}
use Rattle.lpi_enabling.specs.Enabling.{TakesWhereOn, AllOff, RestoresOff, TurnsOn, Disables, FollowEnabling}

-- ---- one call, and a migration

-- no call turns LPIs off but a write of 0 to the processor's GICR_CTLR.EnableLPIs, where the machine lets it
abbrev pub LpisStayOn : Type 0
LpisStayOn = (u : Plain) (vcpu : ℕ) (c : Call) → is_on u vcpu ≡ true → ¬ Disables u vcpu c → is_on (answer u c).1 vcpu ≡ true

-- after that they are off, and none is taken of what takes LPIs where they are on
abbrev pub LpisAreTurnedOff : Type 0
LpisAreTurnedOff =
    (u : Plain) (vcpu : ℕ) (c : Call) → Disables u vcpu c
    → ((redistributor (answer u c).1 vcpu).bases.on ≡ false) × (TakesWhereOn (redistributor u vcpu) → is_on (answer u c).1 vcpu ≡ false)

-- and every call and every migration leaves it so
abbrev pub LpisAreTakenWhereOn : Type 0
LpisAreTakenWhereOn =
    (u : Plain) (vcpu : ℕ) → TakesWhereOn (redistributor u vcpu)
    → TakesWhereOn (redistributor (moved u) vcpu) × ((c : Call) → TakesWhereOn (redistributor (answer u c).1 vcpu))

-- where they are off before a call and on after it, it wrote 1 to the processor's GICR_CTLR.EnableLPIs
abbrev pub OnlyAWriteTurnsOn : Type 0
OnlyAWriteTurnsOn = (u : Plain) (vcpu : ℕ) (c : Call) → is_on u vcpu ≡ false → is_on (answer u c).1 vcpu ≡ true → TurnsOn u vcpu c

-- a migration turns them neither on nor off
abbrev pub MigrationsKeepOn : Type 0
MigrationsKeepOn = (u : Plain) (vcpu : ℕ) → is_on (moved u) vcpu ≡ is_on u vcpu

-- ---- the first state

-- restored or not
abbrev pub MachinesStartOff : Type 0
MachinesStartOff = (d : Desc) (u : Plain) → IsFirstState d u → RestoresOff d.tables → AllOff u

-- ---- runs

abbrev pub RunsFollowEnabling : Type 0
RunsFollowEnabling = (first : Plain) (legs : List Leg) (histories : List (List Entry)) → AllOff first → IsRun first legs histories
    → FollowEnabling first histories

-- also those that were cut
abbrev pub PartialRunsFollowEnabling : Type 0
PartialRunsFollowEnabling = (first : Plain) (legs : List Leg) (histories : List (List Entry)) → AllOff first → IsPartialRun first legs histories
    → FollowEnabling first histories
