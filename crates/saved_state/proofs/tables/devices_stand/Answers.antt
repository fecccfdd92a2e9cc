use Rattle.saved_state.proofs.tables.devices_stand.Goals as goal
use Rattle.saved_state.proofs.DeviceTables as tables

pub returns : goal.returns
returns c = tables.devices_stand
