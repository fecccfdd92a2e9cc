use Rattle.standing_states.proofs.Soundness.{standing_sound}
use Rattle.standing_states.proofs.laws.standing_is_sound.Goals as goal

pub returns : goal.returns
returns c = standing_sound
