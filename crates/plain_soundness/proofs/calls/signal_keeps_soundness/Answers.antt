use Rattle.plain_soundness.proofs.Answers.{signal_keeps}
use Rattle.plain_soundness.proofs.calls.signal_keeps_soundness.Goals as goal

pub returns : goal.returns
returns c = signal_keeps
