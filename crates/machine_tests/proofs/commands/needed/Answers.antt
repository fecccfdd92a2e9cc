use Rattle.std.proofs.Common.{false}
use Rattle.its_types.specs.declared.machine.Profile.TheVariants.{One}
use Rattle.its_types.specs.declared.machine.Shape.{Shape}
use Rattle.cmd_exec.proofs.Start.{no_targets}
use Rattle.machine_tests.proofs.commands.needed.Goals as goal

pub needs-requires : goal.needs-requires
needs-requires c =
    let shape : Shape = record { vcpus = 4; dev_bits = 16; lpi_bits = 16; profile = One; linux = false } in
    record { targets = no_targets shape c.new-maps.result.maps c.new-maps.ensures }
