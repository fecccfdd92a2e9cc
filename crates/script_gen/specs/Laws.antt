-- What a run of a generated script rests on: its machine is made, no leg has too many calls, and the machine can migrate.
use Rattle.std.specs.Prelude.{◌<◌, ◌≤◌, ℕ, List}
use Rattle.std.specs.List.{AllByRecursion}
use Rattle.its_plain.specs.Described.{IsFirstState, IsRefused}
use Rattle.its_plain.specs.History.{after}
use Rattle.its_plain.specs.Plain.{Plain}
use Rattle.its_plain.specs.Runs.{IsLegRun, call_count}
use Rattle.its_plain.specs.Saved.{IsSavable}
use Rattle.its_plain.specs.declared.call.Entry.{Entry}
use Rattle.its_plain.specs.declared.desc.DescFault.{DescFault}
use Rattle.event_script.specs.Limits.{IsWithinLimits}
use Rattle.script_gen.specs.Description.{description}
use Rattle.script_gen.specs.Generated.{first_leg, generated}

-- how many signals each thread may send, and how many threads may
pub record IsAsked (signals threads : ℕ) : Type 0 where
  pub some_signals : 1 ≤ signals
  pub most_signals : signals ≤ 20000
  pub some_threads : 1 ≤ threads
  pub most_threads : threads ≤ 63

-- the description makes a machine
abbrev pub MakesMachine : Type 0
MakesMachine = (first : Plain) × IsFirstState description first

-- so nothing is wrong with it
abbrev pub IsNeverRefused : Type 0
IsNeverRefused = (f : DescFault) → IsRefused description f → ⊥

-- the script has no more of anything than a script may have
abbrev pub StaysWithinLimits : Type 0
StaysWithinLimits = (signals threads : ℕ) → IsAsked signals threads → IsWithinLimits (generated signals threads)

-- each leg has fewer calls than a history has places
abbrev pub HasRoom : Type 0
HasRoom = (signals threads : ℕ) → IsAsked signals threads
    → AllByRecursion (λ leg. call_count leg < description.limits.place_last) (generated signals threads).legs

-- the state that the first leg leaves can be saved, however the calls of its threads follow one another
abbrev pub CanMigrate : Type 0
CanMigrate = (signals threads : ℕ) → IsAsked signals threads → (first : Plain) (h : List Entry)
    → IsFirstState description first → IsLegRun first (first_leg signals threads) h → IsSavable (after first h)
