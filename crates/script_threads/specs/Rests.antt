-- The root between phases.
use Rattle.std.specs.Prelude.{◌≡◌, []}
use Rattle.its_steps.specs.World.{View}
use Rattle.its_turns.specs.Told.{IsLone}

-- it is the root, no other pass is out, and it holds nothing
pub record Rests (v : View) : Type 0 where
  pub lone : IsLone v
  pub held : v.held ≡ []
