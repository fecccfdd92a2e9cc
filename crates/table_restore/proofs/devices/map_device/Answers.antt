use Rattle.standing_states.proofs.Filled.{is_mapped}
use Rattle.table_restore.proofs.devices.map_device.Goals as goal

pub map_events-requires-clause-mapped : goal.map_events-requires-clause-mapped
map_events-requires-clause-mapped c = is_mapped c.room_for_device.new.self.maps c.map_device.new.self.maps c.args.dev.0 c.args.device c.map_device.ensures.maps
