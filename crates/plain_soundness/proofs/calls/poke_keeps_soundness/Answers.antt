use Rattle.plain_soundness.proofs.Answers.{poke_keeps}
use Rattle.plain_soundness.proofs.calls.poke_keeps_soundness.Goals as goal

pub returns : goal.returns
returns c = poke_keeps
