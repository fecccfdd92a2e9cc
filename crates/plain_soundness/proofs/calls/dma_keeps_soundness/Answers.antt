use Rattle.plain_soundness.proofs.Answers.{dma_keeps}
use Rattle.plain_soundness.proofs.calls.dma_keeps_soundness.Goals as goal

pub returns : goal.returns
returns c = dma_keeps
