use Rattle.std.proofs.Common.{◌≡◌, ◌-◌}
use Rattle.its_plain.specs.DeviceTables.{first_device}
use Rattle.standing_states.specs.Walked.{after}
use Rattle.standing_states.specs.Found.{put_found, devices_from, rank, reach}
use Rattle.standing_states.specs.Found.{IsPlace}
use Rattle.table_restore.specs.Outcome.{place_of}
use Rattle.table_restore.proofs.devices.walk.Given as goal

abbrev pub invariant-places : goal.invariant-places
invariant-places l = record {
  inside : IsPlace l.regs (place_of l.place);
  rest : after put_found l.maps.maps (devices_from l.memory l.lpi_bits l.regs (place_of l.place)) ≡ after put_found l.fn.maps.maps
      (devices_from l.memory l.lpi_bits l.regs (first_device l.regs));
}

abbrev pub decreases-places : goal.decreases-places
decreases-places l = reach l.regs - rank (place_of l.place)
