use Rattle.plain_soundness.proofs.Answers.{claim_keeps}
use Rattle.plain_soundness.proofs.calls.claim_keeps_soundness.Goals as goal

pub returns : goal.returns
returns c = claim_keeps
