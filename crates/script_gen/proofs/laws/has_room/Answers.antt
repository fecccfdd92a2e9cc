use Rattle.script_gen.proofs.Room.{has_room}
use Rattle.script_gen.proofs.laws.has_room.Goals as goal

pub returns : goal.returns
returns c = has_room
