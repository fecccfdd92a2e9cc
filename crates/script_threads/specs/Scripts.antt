-- What a script's limits tell of its legs.
use Rattle.std.specs.Prelude.{◌≡◌, ◌≤◌, true, length, Ok}
use Rattle.std.specs.List.{AllByRecursion}
use Rattle.its_plain.specs.Machine.{made}
use Rattle.its_plain.specs.Plain.{Plain}
use Rattle.its_plain.specs.Runs.{Leg}
use Rattle.its_plain.specs.declared.desc.Desc.{Desc}
use Rattle.event_script.specs.Limits.{is_leg}
use Rattle.its_turns.specs.Opening.{kept_of}
use Rattle.its_turns.specs.declared.machine.Machine.{Machine}
use Rattle.script_threads.specs.Asks.{MayRunLeg}

-- the machine is one of this description
pub record IsOfDesc (d : Desc) (m : Machine) : Type 0 where
  pub base : Plain
  pub made_is : made d ≡ Ok base
  pub kept : m.desc ≡ kept_of d

-- a leg within limits may be run
abbrev pub LegsMayRun : Type 0
LegsMayRun = (d : Desc) (m : Machine) (phases : Leg) → IsOfDesc d m → is_leg d phases ≡ true
    → (length phases ≤ 256) × AllByRecursion (λ threads. length threads ≤ 64) phases
    × MayRunLeg m phases
