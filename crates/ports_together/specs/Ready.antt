-- Passes between calls, and machines that have only begun.
use Rattle.std.specs.Prelude.{◌≡◌, ◌<◌, ◌^◌, [], length}
use Rattle.its_plain.specs.Machine.{IsDescription}
use Rattle.its_plain.specs.declared.desc.Desc.{Desc}
use Rattle.its_steps.specs.Parts.{translator_count, vcpu_count}
use Rattle.its_steps.specs.World.{first_view}
use Rattle.its_turns.specs.Machines.{setup, view, IsOf}
use Rattle.its_turns.specs.Told.{IsLone}
use Rattle.its_turns.specs.declared.machine.Machine.{Machine}
use Rattle.its_turns.specs.declared.machine.Pass.{Pass}

-- the pass is one of the machine, and holds nothing
pub record IsReady (m : Machine) (p : Pass) : Type 0 where
  pub of : IsOf m p
  pub free : (view p).held ≡ []

-- it is the root, and holds nothing
pub record IsRoot (m : Machine) (p : Pass) : Type 0 where
  pub ready : IsReady m p
  pub number : (view p).number ≡ 0

-- a description of a machine of one translator that threads can share
pub record IsSmall (d : Desc) : Type 0 where
  pub description : IsDescription d
  pub single : length d.translators ≡ 1
  pub shards : d.shards ≡ 4
  pub vcpus : d.shape.vcpus ≡ 4
  pub stamps : d.limits.stamp_last < 2 ^ 24
  pub places : d.limits.place_last ≡ 1099511627775

-- a description of a machine of two translators that threads can share
pub record IsPair (d : Desc) : Type 0 where
  pub description : IsDescription d
  pub shards : d.shards ≡ 4
  pub stamps : d.limits.stamp_last < 4096
  pub places : d.limits.place_last ≡ 1099511627775

-- a machine at rest with its root
pub record IsAtRest (m : Machine) (r : Pass) : Type 0 where
  pub of : IsOf m r
  pub lone : IsLone (view r)
  pub free : (view r).held ≡ []

-- a machine of one translator and four processors with an empty history, and its root
pub record IsShared (m : Machine) (r : Pass) : Type 0 where
  pub of : IsOf m r
  pub view_is : view r ≡ first_view (setup m)
  pub translators : translator_count (setup m) ≡ 1
  pub vcpus : vcpu_count (setup m) ≡ 4
