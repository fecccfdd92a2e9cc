-- A pass with the machine that it is of.
use Rattle.std.specs.Prelude.{◌≡◌, []}
use Rattle.device_port.specs.Routes.{AreDevices}
use Rattle.its_numbers.specs.Counters.{none_counted}
use Rattle.its_types.specs.declared.machine.Word.{Word}
use Rattle.its_steps.specs.World.{View, split_off, has_split}
use Rattle.its_turns.specs.Machines.{view, IsOf}
use Rattle.its_turns.specs.Told.{Looks}
use Rattle.std_alloc.specs.Arc.{arc_value}
use Rattle.its_shared.specs.Knowing.{Known}
use Rattle.its_shared.specs.declared.port.Port.TheInside.{Inside}

-- what the pass knows
abbrev pub known_by : Inside → Known
known_by p = record { view = view p.pass; desc = (arc_value p.machine).desc; limits = p.limits; routes = p.routes; counters = p.counters }

-- the pass is one of the machine, and holds nothing
pub record IsPort (p : Inside) : Type 0 where
  pub of : IsOf (arc_value p.machine) p.pass
  pub free : (view p.pass).held ≡ []
  pub devices : AreDevices (arc_value p.machine).desc.requesters

-- the root has looked and has split a pass off, of the same machine, which has seen what it had
pub record Splits (k l p : Known) : Type 0 where
  pub before : View
  pub word : Word
  pub looks : Looks k.view word before
  pub root : l.view ≡ has_split before
  pub pass : p.view ≡ split_off before
  pub desc : (l.desc ≡ k.desc) × (p.desc ≡ k.desc)
  pub limits : (l.limits ≡ k.limits) × (p.limits ≡ k.limits)
  pub counted : (l.routes ≡ k.routes) × (l.counters ≡ k.counters)
  pub fresh : (p.routes ≡ 0) × (p.counters ≡ none_counted)
