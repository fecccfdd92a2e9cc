use Rattle.std.proofs.Common.{◌≡◌, ◌<◌, ◌-◌, ◌^◌, IsSome}
use Rattle.its_types.specs.Maps.{device_of}
use Rattle.its_plain.specs.EventTables.{itt_of}
use Rattle.standing_states.specs.Walked.{after}
use Rattle.standing_states.specs.Found.{put_event, events_from, events_read}
use Rattle.table_restore.proofs.events.map_events.Given as goal

abbrev pub invariant-places : goal.invariant-places
invariant-places l = record {
  inside : l.ev < 2 ^ l.device.bits;
  mapped : IsSome (device_of l.maps.maps l.dev.0);
  rest : after (put_event l.dev.0) l.maps.maps (events_from l.memory l.lpi_bits (itt_of l.dev.0 l.device) l.ev) ≡ after (put_event l.dev.0) l.fn.maps.maps
      (events_read l.memory l.lpi_bits (itt_of l.dev.0 l.device));
}

abbrev pub decreases-places : goal.decreases-places
decreases-places l = 2 ^ l.device.bits - l.ev
