use Rattle.plain_soundness.proofs.First.{start_sound}
use Rattle.plain_soundness.proofs.start.machines_start_sound.Goals as goal

pub returns : goal.returns
returns c = start_sound
