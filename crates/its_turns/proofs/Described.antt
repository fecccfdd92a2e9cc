-- What a machine keeps of its description.
use Rattle.std.proofs.Common.{◌≡◌, length, ◌∙◌}
use lib.ListN.{length-map}
use Rattle.its_plain.specs.Machine.{layout_of}
use Rattle.its_plain.specs.declared.desc.Desc.{Desc}
use Rattle.its_turns.specs.Machines.{setup}
use Rattle.its_turns.specs.Opening.{kept_its, kept_of}
use Rattle.its_turns.specs.declared.machine.Machine.{Machine}

pub its_layout : (m : Machine) → layout_of m.desc ≡ (setup m).start.layout
its_layout m = m.built.1 ∙ m.built.0

-- each translator has its place in what is kept
pub kept_long : (d : Desc) → length (kept_of d).translators ≡ length d.translators
kept_long d = length-map d.translators kept_its
