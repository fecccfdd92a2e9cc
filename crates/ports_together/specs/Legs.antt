-- The leg that threads run.
use Rattle.std.specs.Prelude.{◌≡◌, ◌≤◌, length}
use Rattle.std.specs.List.{AllByRecursion}
use Rattle.its_plain.specs.Runs.{Leg}
use Rattle.its_steps.specs.Parts.{translator_count, vcpu_count}
use Rattle.its_turns.specs.Machines.{setup}
use Rattle.its_turns.specs.declared.machine.Machine.{Machine}
use Rattle.script_threads.specs.Asks.{MayRunLeg}

-- a leg that a machine of one translator and four processors may run
pub record IsSmallLeg (phases : Leg) : Type 0 where
  pub few : length phases ≤ 256
  pub threads : AllByRecursion (λ threads. length threads ≤ 64) phases
  pub may : (m : Machine) → translator_count (setup m) ≡ 1 → vcpu_count (setup m) ≡ 4 → MayRunLeg m phases
