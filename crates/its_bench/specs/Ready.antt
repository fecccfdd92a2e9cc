-- Passes between calls.
use Rattle.std.specs.Prelude.{◌≡◌, []}
use Rattle.its_turns.specs.Machines.{view, IsOf}
use Rattle.its_turns.specs.declared.machine.Machine.{Machine}
use Rattle.its_turns.specs.declared.machine.Pass.{Pass}

-- the pass is one of the machine, and holds nothing
pub record IsReady (m : Machine) (p : Pass) : Type 0 where
  pub of : IsOf m p
  pub free : (view p).held ≡ []

-- it is the root, and holds nothing
pub record IsRoot (m : Machine) (p : Pass) : Type 0 where
  pub ready : IsReady m p
  pub number : (view p).number ≡ 0
