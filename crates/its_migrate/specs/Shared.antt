-- The outcome of making a machine that threads share.
use Rattle.std.specs.Prelude.{◌≡◌, Result, Ok, Err}
use Rattle.its_plain.specs.Described.{IsFirstState, IsRefused}
use Rattle.its_plain.specs.declared.desc.Desc.{Desc}
use Rattle.its_plain.specs.declared.make.MakeError.{MakeError}
use Rattle.its_plain.specs.declared.make.MakeError.TheVariants as errors
use Rattle.its_steps.specs.World.{first_view}
use Rattle.its_turns.specs.Machines.{setup, view, IsOf}
use Rattle.its_turns.specs.Opening.{kept_of}
use Rattle.its_turns.specs.declared.machine.Machine.{Machine}
use Rattle.its_turns.specs.declared.machine.Pass.{Pass}

-- it starts in the first state of the description, with its limits and shards, and keeps the description; the pass is its root
pub record IsFirst (d : Desc) (m : Machine) (root : Pass) : Type 0 where
  pub start : IsFirstState d (setup m).start
  pub limits : (setup m).limits ≡ d.limits
  pub shards : (setup m).shards ≡ d.shards
  pub desc : m.desc ≡ kept_of d
  pub of : IsOf m root
  pub view : view root ≡ first_view (setup m)

-- or the first thing that is wrong with the description, unless memory ran out
abbrev pub IsSharedFrom : Desc → Result (Machine × Pass) MakeError → Type 0
IsSharedFrom d (Ok made) = IsFirst d made.0 made.1
IsSharedFrom d (Err (errors.Fault f)) = IsRefused d f
IsSharedFrom d (Err errors.NoMemory) = Unit {0}
